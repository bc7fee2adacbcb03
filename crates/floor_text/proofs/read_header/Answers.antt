-- `floor_text::read_header` meets its contract: each step that finds nothing breaks one field of `Headed`.
use Rattle.learning.proofs.Words.{◌≡◌, sym, ap, ◌∙◌, arith, refl, drop}
use Rattle.model.specs.FloorText.{begins, size_in, type_and_height, and_width, and_map, height_in, after_height, width_in, after_width}
use Rattle.model.proofs.Accepted.{never}
use Rattle.floor_text.proofs.Laws.{begins_is, past_size, header_judges}
use Rattle.floor_text.proofs.read_header.Goals as goal
use Rattle.floor_text.proofs.read_header.Goals.{In_ok-height, In_ok-width}

-- the sizes read so far, and the texts after them
high : (c : In_ok-height) → (c.in_ok-height.height ≡ height_in c.args.text.now) × (c.in_ok-height.rest.now ≡ after_height c.args.text.now)
high c = past_size 19 c.args.text.now refl c.in_ok-strip_prefix.ensures.cases.1 c.in_ok-height.ensures

wide : (c : In_ok-width) → c.in_ok-height.rest.now ≡ after_height c.args.text.now → (c.in_ok-width.width ≡ width_in c.args.text.now) × (c.in_ok-width.rest.now ≡ after_width c.args.text.now)
wide c e = past_size 6 (after_height c.args.text.now) e c.in_ok-strip_prefix-2.ensures.cases.1 c.in_ok-width.ensures

pub returns-in_err-strip_prefix : goal.returns-in_err-strip_prefix
returns-in_err-strip_prefix c =
    rw c.from_residual.ensures ((header_judges _).refused (λ h. never h.typed (sym (begins_is type_and_height c.args.text.now) ∙ c.in_err-strip_prefix.ensures.cases)))

pub returns-in_err-height : goal.returns-in_err-height
returns-in_err-height c =
    rw c.from_residual-in_err-height.ensures ((header_judges _).refused (λ h. omega (arith, h.high, c.in_err-height.ensures, ap size_in c.in_ok-strip_prefix.ensures.cases.1)))

pub returns-in_err-strip_prefix-2 : goal.returns-in_err-strip_prefix-2
returns-in_err-strip_prefix-2 c =
    let e = high (goal.at.returns-in_err-strip_prefix-2 c).In_ok-height in
    rw c.from_residual-in_err-strip_prefix-2.ensures ((header_judges _).refused (λ h. never h.worded (ap (begins and_width) (sym e.1) ∙ sym (begins_is and_width c.in_ok-height.rest.now) ∙ c.in_err-strip_prefix-2.ensures.cases)))

pub returns-in_err-width : goal.returns-in_err-width
returns-in_err-width c =
    let e = high (goal.at.returns-in_err-width c).In_ok-height in
    rw c.from_residual-in_err-width.ensures ((header_judges _).refused (λ h. omega (arith, h.wide, c.in_err-width.ensures, ap size_in (c.in_ok-strip_prefix-2.ensures.cases.1 ∙ ap (drop 6) e.1))))

pub returns-in_err-rows : goal.returns-in_err-rows
returns-in_err-rows c =
    let e = wide (goal.at.returns-in_err-rows c).In_ok-width (high (goal.at.returns-in_err-rows c).In_ok-height).1 in
    rw c.from_residual-in_err-rows.ensures ((header_judges _).refused (λ h. never h.mapped (ap (begins and_map) (sym e.1) ∙ sym (begins_is and_map c.in_ok-width.rest.now) ∙ c.in_err-rows.ensures.cases)))

pub returns : goal.returns
returns c =
    let e = high (goal.at.returns c).In_ok-height in
    let f = wide (goal.at.returns c).In_ok-width e.1 in
    record {
      accepted = (header_judges _).done (record {
        typed = sym (begins_is type_and_height c.args.text.now) ∙ c.in_ok-strip_prefix.ensures.cases.0;
        high = omega (arith, e.0, c.in_ok-height.ensures.one);
        worded = ap (begins and_width) (sym e.1) ∙ sym (begins_is and_width c.in_ok-height.rest.now) ∙ c.in_ok-strip_prefix-2.ensures.cases.0;
        wide = omega (arith, f.0, c.in_ok-width.ensures.one);
        mapped = ap (begins and_map) (sym f.1) ∙ sym (begins_is and_map c.in_ok-width.rest.now) ∙ c.in_ok-rows.ensures.cases.0;
      });
      width = f.0;
      height = e.0;
      narrow = c.in_ok-width.ensures.most;
      low = c.in_ok-height.ensures.most;
      past = c.in_ok-rows.ensures.cases.1 ∙ ap (drop 4) f.1;
    }
