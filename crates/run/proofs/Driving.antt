-- What holds while a trial's decisions are made: the code stands where a ride of the model stands, and what is left of that ride is what the whole ride comes to.
-- The ride keeps its moves, which the code does not. Each decision lowers the ride's potential, so the loop ends; and the counts fit in 64 bits.
use Prim.Native.Nat.{ℕ, ◌+◌, ◌≤◌, ◌<◌, ◌*◌}
use mathlib.Core.Path.{◌≡◌, refl, sym, ap, subst, ◌∙◌}
use mathlib.Core.Bool.{true, false}
use mathlib.Core.List.{List, [], ◌∷◌, ◌++◌}
use native.Mathlib.Omega.{arith}
use lib.Dec.{T}
use lib.ListN.{length, get_or}
use lib.Seq.{length-take-le, get_or-set_same}
use Rattle.learning.specs.Path.{legs}
use Rattle.learning.specs.Trial as learning
use Rattle.learning.specs.Trial.{Step}
use Rattle.learning.proofs.Bounds.{potential}
use Rattle.answers.specs.declared.Job.{Job}
use Rattle.answers.specs.declared.State.{State}
use Rattle.answers.specs.declared.Report.{Report}
use Rattle.answers.specs.declared.Refusal.{Refusal}
use Rattle.std.specs.Prelude.{Ok, Err}
use Rattle.answers.specs.Says.{says_tried}
use Rattle.model.specs.Basics.{member}
use Rattle.model.specs.Checks.{floor_of, goals}
use Rattle.model.specs.Opening.{open_trial}
use Rattle.model.specs.Decision.{Deed, at_goal, on_path, judge, act, least_room}
use Rattle.model.specs.Ride as model
use Rattle.model.specs.Ride.{Ride, begun, next, next_by, learning_job, ride, trial_of, trial, trial_by}
use Rattle.model.proofs.Accepted.{never, fails}
use Rattle.model.proofs.Demand.{trial_is_made}
use Rattle.model.proofs.Openings as openings
use Rattle.model.proofs.Benches.{goal_means, goal-free, at_goal_lem}
use Rattle.model.proofs.Steps.{as_state, short, size-high}
use Rattle.model.proofs.Rides.{Riding, yet, rest, riding_begun, riding_next, does, falls, keeps, judges, room, rest-begun, rest_next, ride_there}
use Rattle.model.proofs.Rides.{kept_low, counts_fit, most_learned, most_decisions, dearest_kept}
use Rattle.decision.specs.Ready.{Ready, Places}
use Rattle.decision.proofs.Judging.{ready}
use Rattle.lookahead.specs.Contract.{Used}
use Rattle.run.specs.declared.Stand.{Stand}
use Rattle.run.specs.declared.Workspace.{Workspace}
use Rattle.run.specs.Stands.{set_out, tallied_of, Onward, Went, Left}
use Rattle.run.specs.Trials.{noted, Cleared, Rode, IsTrial}
use Rattle.run.proofs.Legs.{Sums, sums_none, sum_last, note_more, noted-size, noted-sums}
use Rattle.model.specs.Lookahead.{dearest_leg}

-- Where a trial stands: of the state, the counts and the lists.
pub record Driving (j : Job) (bytes : List ℕ) (start : ℕ) (lent-table lent-path : List ℕ) (w : Stand) (table path : List ℕ) : Type 0 where
  -- a ride that is made so far
  pub at : Ride
  pub riding : Riding j bytes start lent-table lent-path at
  -- which comes to the whole ride
  pub comes : rest j bytes at ≡ ride j bytes start lent-table lent-path
  -- and the code stands where it stands
  pub state_is : at.state ≡ w.state
  pub decisions_is : at.decisions ≡ w.decisions
  pub learned_is : at.learned ≡ w.learned
  pub travel_is : at.travel ≡ w.travel
  pub table_is : at.table ≡ table
  pub path_is : at.path ≡ path

-- And what the legs come to up to each place of the path and the current cell is noted.
pub record Along (j : Job) (bytes : List ℕ) (s : State) (path along : List ℕ) : Type 0 where
  pub size : length along ≡ 4096
  pub sums : Sums (learning_job j bytes).leg (on_path s path ++ s.current ∷ []) along

-- what falls with each decision
abbrev pub yet_to : Job → List ℕ → State → (table path : List ℕ) → ℕ
yet_to j bytes s table path = potential (learning_job j bytes) (as_state s table path)

module _ (j : Job) (bytes : List ℕ) (start : ℕ) (table₀ path₀ : List ℕ) (opened : open_trial j bytes start table₀ path₀ ≡ Ok tt) where
  abbrev R : openings.Ready j bytes start table₀ path₀
  R = openings.ready j bytes start table₀ path₀ opened

  pub begins : Driving j bytes start table₀ path₀ (set_out start) table₀ path₀
  begins = record {
    at = begun start table₀ path₀;
    riding = riding_begun j bytes start table₀ path₀ R;
    comes = sym (rest-begun j bytes start table₀ path₀ R);
    state_is = refl;
    decisions_is = refl;
    learned_is = refl;
    travel_is = refl;
    table_is = refl;
    path_is = refl;
  }

  pub begins-along : {along : List ℕ} → length along ≡ 4096 → get_or along 0 0 ≡ 0 → Along j bytes (set_out start).state path₀ along
  begins-along size none = record { size = size; sums = sums_none (learning_job j bytes).leg start none }

  module _ {w : Stand} {table path : List ℕ} (g : Driving j bytes start table₀ path₀ w table path) where
    abbrev s : State
    s = w.state

    -- the counts fit
    pub fits : (w.decisions < most_decisions) × (w.learned ≤ most_learned) × (w.travel < dearest_leg * most_decisions)
    fits = omega (arith, counts_fit j bytes start table₀ path₀ R g.riding, g.decisions_is, g.learned_is, g.travel_is)

    pub long : length path ≡ length path₀
    long = ap length (sym g.path_is) ∙ g.riding.places

    pub sized : length table ≡ length table₀
    sized = ap length (sym g.table_is) ∙ (keeps j bytes start table₀ path₀ R g.riding).sound.size ∙ sym R.opened.long

    -- a path is within its list, and shorter than the sums
    short-path : (s.length ≤ length path) × (s.length < 4096)
    short-path =
        let H = R.opened.held in
        let l = room j bytes start table₀ path₀ R g.riding in
        let few = short j bytes H g.at.state g.at.table g.at.path (keeps j bytes start table₀ path₀ R g.riding) l in
        omega (arith, few, l, size-high j bytes H, ap (λ u. u.length) g.state_is, ap length g.path_is)

    pub path-fits : s.length < 4096
    path-fits = short-path.1

    pub path-size : length (on_path s path) ≡ s.length
    path-size = length-take-le s.length path short-path.0

    -- the last sum is the kept cost
    kept_is : {along : List ℕ} → Along j bytes s path along → get_or along s.length 0 ≡ model.kept j bytes g.at
    unfolding model.kept
    kept_is {along} S =
        ap (λ (n : ℕ). get_or along n 0) (sym path-size)
        ∙ sum_last (learning_job j bytes).leg (on_path s path) s.current S.sums
        ∙ sym (λ i. legs (learning_job j bytes).leg (on_path (g.state_is i) (g.path_is i)) (g.state_is i).current)

    pub kept-fits : {along : List ℕ} → Along j bytes s path along → get_or along s.length 0 ≤ dearest_kept
    kept-fits S = omega (arith, kept_is S, kept_low j bytes start table₀ path₀ R g.riding)

    -- at a goal the ride is over
    pub over : member s.current (goals j) ≡ true → g.at ≡ ride j bytes start table₀ path₀
    over e =
        let there : at_goal j bytes g.at.state.current ≡ true =
        ap (λ u. at_goal j bytes u.current) g.state_is ∙ at_goal_lem j bytes s.current (goal-free (floor_of j bytes) (goals j) R.opened.held.benches s.current e) ∙ e in
        sym (ride_there j bytes _ g.at there) ∙ g.comes

    -- and the record is the ride's
    pub rode : {along : List ℕ} → member s.current (goals j) ≡ true → Along j bytes s path along
        → Rode j bytes (ride j bytes start table₀ path₀) (tallied_of w along) table path
    rode e S = subst (λ o. Rode j bytes o _ table path) (over e) (record {
      record_is = sym (λ i. record { decisions = g.decisions_is i; learned = g.learned_is i; kept = sym (kept_is S) i; travel = g.travel_is i });
      table_is = sym g.table_is;
      path_is = sym g.path_is;
    })

    module _ (aside : member s.current (goals j) ≡ false) where
      pub off : at_goal j bytes g.at.state.current ≡ false
      off = fails _ (λ e. never (goal_means (floor_of j bytes) (goals j) g.at.state.current (subst T (sym e) tt)) (ap (λ u. member u.current (goals j)) g.state_is ∙ aside))

      same : act j bytes g.at.state g.at.table g.at.path ≡ act j bytes s table path
      same i = act j bytes (g.state_is i) (g.table_is i) (g.path_is i)

      -- a decision can be made
      may_act : Ready j bytes s table path
      may_act =
          ready j bytes s table path least_room 0
          ((λ i. judge j bytes (sym g.state_is i) (sym g.table_is i) (sym g.path_is i) least_room 0) ∙ judges j bytes start table₀ path₀ R g.riding least_room 0 (omega arith))

      -- and one more is made
      pub drives : {along table' path' along' : List ℕ} {r : Stand} → Went (act j bytes s table path) w along r table' path' along'
          → Driving j bytes start table₀ path₀ r table' path'
      unfolding next_by
      drives a = record {
        at = next j bytes g.at;
        riding = riding_next j bytes start table₀ path₀ R g.riding off;
        comes = sym (rest_next j bytes start table₀ path₀ R g.riding off) ∙ g.comes;
        state_is = ap (λ d. d.state) same ∙ sym a.state;
        decisions_is = omega (arith, g.decisions_is, a.decisions);
        learned_is = (λ i. g.learned_is i + (same i).rise) ∙ sym a.learned;
        travel_is = (λ i. g.travel_is i + (same i).cost) ∙ sym a.travel;
        table_is = ap (λ d. d.table) same ∙ sym a.table;
        path_is = ap (λ d. d.path) same ∙ sym a.path;
      }

      pub lowers : {along table' path' along' : List ℕ} {r : Stand} → Went (act j bytes s table path) w along r table' path' along'
          → yet_to j bytes r.state table' path' < yet_to j bytes s table path
      unfolding next_by
      lowers a =
          let after = ap (λ d. as_state d.state d.table d.path) same ∙ (λ i. as_state (sym a.state i) (sym a.table i) (sym a.path i)) in
          let here : as_state g.at.state g.at.table g.at.path ≡ as_state s table path = λ i. as_state (g.state_is i) (g.table_is i) (g.path_is i) in
          subst (λ x. potential (learning_job j bytes) x < yet_to j bytes s table path) after
          (subst (λ x. yet j bytes (next j bytes g.at) < potential (learning_job j bytes) x) here (falls j bytes start table₀ path₀ R g.riding off))

  module _ {w : Stand} {table path along : List ℕ} (g : Driving j bytes start table₀ path₀ w table path) (aside : member w.state.current (goals j) ≡ false)
      (S : Along j bytes w.state path along) where
    abbrev J : learning.Job
    J = learning_job j bytes

    abbrev d : Deed
    d = act j bytes w.state table path

    module _ {table' path' along' : List ℕ} {r : Stand} (a : Went d w along r table' path' along') where
      -- the decision as `learning` has it
      stepped : Step J (as_state w.state table path) d.rise d.cost (as_state r.state table' path')
      stepped =
          let did = same g aside in
          let here = coe 0 1 (i. Step J (as_state (g.state_is i) (g.table_is i) (g.path_is i)) (did i).rise (did i).cost (as_state (did i).state (did i).table (did i).path))
          (does j bytes start table₀ path₀ R g.riding (off g aside)).step in
          coe 1 0 (i. Step J (as_state w.state table path) d.rise d.cost (as_state (a.state i) (a.table i) (a.path i))) here

      -- its leg is noted
      pub notes : Along j bytes r.state path' along'
      notes =
          let next = drives g aside a in
          let room : length (on_path r.state path') < length along = omega (arith, path-size next, path-fits next, S.size) in
          let note = a.sums ∙ (λ i. noted along (sym (path-size g) i) ((ap (λ x. x.length) (sym a.state) ∙ sym (path-size next)) i) d.cost) in
          record {
            size = ap length a.sums ∙ noted-size along w.state.length d.state.length d.cost ∙ S.size;
            sums = subst (Sums J.leg (on_path r.state path' ++ r.state.current ∷ [])) (sym note) (noted-sums J stepped room S.sums);
          }

    -- a decision can be noted and counted
    pub may_go : Onward j bytes w table path along
    may_go =
        let r : Stand = record { state = d.state; decisions = w.decisions + 1; learned = w.learned + d.rise; travel = w.travel + d.cost; base = 0; answer = d.answer } in
        let made : Went d w along r d.table d.path (noted along w.state.length d.state.length d.cost) =
        record { state = refl; decisions = refl; learned = refl; travel = refl; table = refl; path = refl; sums = refl } in
        let next = drives g aside made in
        let few = fits next in
        record {
          ready = may_act g aside;
          fits = record {
            size = S.size;
            place = λ h. path-fits next;
            sum = λ h.
                let stored = ap (λ xs. get_or xs d.state.length 0) (note_more along w.state.length d.state.length d.cost h) in
                omega (arith, stored, get_or-set_same along d.state.length (get_or along w.state.length 0 + d.cost) 0 (omega (arith, path-fits next, S.size)), kept-fits next (notes made));
          };
          decisions = omega (arith, few);
          learned = omega (arith, few);
          travel = omega (arith, few);
          rise = omega (arith, few);
          leg = omega (arith, few);
        }

-- ---- the loop of a trial

-- What a trial's loop keeps from one decision to the next.
pub record Underway (j : Job) (bytes : List ℕ) (start : ℕ) (table₀ path₀ : List ℕ) (w : Stand) (table path : List ℕ) (l : Workspace) : Type 0 where
  -- the ride so far
  pub drive : Driving j bytes start table₀ path₀ w table path
  -- the lists that the next decision takes
  pub used : Used w.base l.scratch.mark l.scratch.cost l.scratch.list
  pub places : Places l.place path w.state.length
  -- the sums of the legs
  pub legs_so : Along j bytes w.state path l.along

module _ {j : Job} {bytes : List ℕ} {start : ℕ} {table₀ path₀ : List ℕ} (opened : open_trial j bytes start table₀ path₀ ≡ Ok tt) where
  pub sets_out : {l : Workspace} → Cleared l → Underway j bytes start table₀ path₀ (set_out start) table₀ path₀ l
  sets_out l = record {
    drive = begins j bytes start table₀ path₀ opened;
    used = l.used;
    places = record { size = l.places; noted = λ k h. absurd (omega arith) };
    legs_so = begins-along j bytes start table₀ path₀ opened l.sums l.none_yet;
  }

  module _ {w : Stand} {table path : List ℕ} {l : Workspace} (u : Underway j bytes start table₀ path₀ w table path l) where
    pub may_tally : (length l.along ≡ 4096) × (w.state.length < 4096)
    may_tally = (u.legs_so.size, path-fits j bytes start table₀ path₀ opened u.drive)

    -- on a goal it is over, and its record is the ride's
    pub done : member w.state.current (goals j) ≡ true → u.drive.at ≡ ride j bytes start table₀ path₀
    done e = over j bytes start table₀ path₀ opened u.drive e

    pub rode_so : member w.state.current (goals j) ≡ true → Rode j bytes (ride j bytes start table₀ path₀) (tallied_of w l.along) table path
    rode_so e = rode j bytes start table₀ path₀ opened u.drive e u.legs_so

    module _ (e : member w.state.current (goals j) ≡ false) where
      -- off it one more decision can be made
      pub may_go_on : Onward j bytes w table path l.along
      may_go_on = may_go j bytes start table₀ path₀ opened u.drive e u.legs_so

      -- and it is nearer its end
      pub nearer : {table' path' along' : List ℕ} {r : Stand} → Went (act j bytes w.state table path) w l.along r table' path' along'
          → yet_to j bytes r.state table' path' < yet_to j bytes w.state table path
      nearer a = lowers j bytes start table₀ path₀ opened u.drive e a

      module _ {table' path' : List ℕ} {l' : Workspace} {r : Stand} (a : Went (act j bytes w.state table path) w l.along r table' path' l'.along)
          (f : Left j bytes (act j bytes w.state table path) w r l' path') where
        pub goes_on : Underway j bytes start table₀ path₀ r table' path' l'
        goes_on = record {
          drive = drives j bytes start table₀ path₀ opened u.drive e a;
          used = f.used;
          places = f.places;
          legs_so = notes j bytes start table₀ path₀ opened u.drive e u.legs_so a;
        }

        pub goes_on_at : goes_on.drive.at ≡ next j bytes u.drive.at
        unfolding goes_on drives
        goes_on_at = refl

pub sets_out_at : (j : Job) (bytes : List ℕ) {start : ℕ} {table₀ path₀ : List ℕ} (opened : open_trial j bytes start table₀ path₀ ≡ Ok tt) {l : Workspace}
    (c : Cleared l) → (sets_out opened c).drive.at ≡ begun start table₀ path₀
unfolding sets_out begins
sets_out_at j bytes opened c = refl

-- ---- a trial's answer, by what the opening answers

module _ (j : Job) (bytes : List ℕ) (start : ℕ) (table path : List ℕ) where
  pub trial-refused : {r : Refusal} → open_trial j bytes start table path ≡ Err r → IsTrial (trial j bytes start table path) (Err r) table path
  unfolding trial_by
  trial-refused e =
      let o = ap (λ v. trial_of v j bytes (ride j bytes start table path) table path) (sym e) in
      record { answer_is = ap (λ u. says_tried u.answer) o; table_is = ap (λ u. u.table) o; path_is = ap (λ u. u.path) o }

  pub trial-made : {r : Report} {t p : List ℕ} → open_trial j bytes start table path ≡ Ok tt → Rode j bytes (ride j bytes start table path) r t p
      → IsTrial (trial j bytes start table path) (Ok r) t p
  trial-made e d =
      let o = sym (trial_is_made j bytes start table path e) in
      record {
        answer_is = ap (λ x. says_tried (Ok x)) d.record_is ∙ ap (λ u. says_tried u.answer) o;
        table_is = d.table_is ∙ ap (λ u. u.table) o;
        path_is = d.path_is ∙ ap (λ u. u.path) o;
      }
