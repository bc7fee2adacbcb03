-- `Floor::step` meets its contract: each test that fails makes a wall, and past them the cell is the model's, at the price of the move.
use Rattle.learning.proofs.Words.{◌≡◌, ℕ, ◌+◌, ◌-◌, ◌*◌, ◌≤◌, ◌<◌, arith, rules, subst, sym, ◌∙◌}
use Rattle.model.specs.Floor.{Floor, Sized, east, south}
use Rattle.floor.specs.declared.Spot.{Spot}
use Rattle.floor.specs.Moves.{Placed}
use Rattle.floor.proofs.Stepping.{Sided, here_free, room, reached, wall_row, wall_column, wall_ahead, step_to}
use Rattle.floor.proofs.Floor.step.Goals as goal
use Rattle.floor.proofs.Floor.step.Goals.{Else-column_barred, After-east}

-- what is asked of the floor holds of the one that its fields say
placed : {f g : Floor} {x : ℕ} {at : Spot} → f ≡ g → Placed g x at → Placed f x at
placed {x = x} {at = at} e p = subst (λ f. Placed f x at) (sym e) p

sided : (c : Else-column_barred) → let a = c.args in Sided a.at a.m
sided c = (c.row_barred.ensures.holds c.if-row_barred.false, c.column_barred.ensures.holds c.if-column_barred.false)

-- the sum that leads to the cell has room below and above
space : {f : Floor} {x m n : ℕ} {at : Spot} → Sized f → Placed f x at → m < 8 → Sided at m → n ≡ south m
    → let sum = x + n * f.width + east m in (f.width + 1 ≤ sum) × (sum ≤ 8192)
space z p l s e = rw e (room z p _ l s)

-- and it is the model's
led : (c : After-east) →
    let a = c.args in let w = c.self.inside.width in
    a.cell + c.south.result * w + c.east.result - (w + 1) ≡ a.cell + south a.m * w + east a.m - (w + 1)
led c = rw (c.south.ensures, c.east.ensures)

pub returns-then-row_barred : goal.returns-then-row_barred
returns-then-row_barred c =
    wall_row (subst Sized c.self.view_is c.self.invariant) c.requires.placed _ c.requires.eight (c.row_barred.ensures.fails c.if-row_barred.true)

pub returns-then-column_barred : goal.returns-then-column_barred
returns-then-column_barred c =
    wall_column (subst Sized c.self.view_is c.self.invariant) c.requires.placed _ c.requires.eight (c.column_barred.ensures.fails c.if-column_barred.true)

pub overflow_add-to : goal.overflow_add-to
overflow_add-to c =
    omega (arith, space c.self.invariant (placed c.self.view_is c.requires.placed) c.requires.eight (sided (goal.at.overflow_add-to c).Else-column_barred) c.south.ensures)

pub overflow_add-to-2 : goal.overflow_add-to-2
overflow_add-to-2 c =
    omega (arith, space c.self.invariant (placed c.self.view_is c.requires.placed) c.requires.eight (sided (goal.at.overflow_add-to-2 c).Else-column_barred) c.south.ensures)

pub overflow_sub-to : goal.overflow_sub-to
overflow_sub-to c =
    omega (arith, space c.self.invariant (placed c.self.view_is c.requires.placed) c.requires.eight (sided (goal.at.overflow_sub-to c).Else-column_barred) c.south.ensures)

pub byte_ahead-there-requires : goal.byte_ahead-there-requires
byte_ahead-there-requires c =
    (reached c.self.invariant (placed c.self.view_is c.requires.placed) _ c.requires.eight (sided (goal.at.byte_ahead-there-requires c).Else-column_barred) _ (led (goal.at.byte_ahead-there-requires c).After-east), c.requires.eight)

pub returns-then-not-free_byte : goal.returns-then-not-free_byte
returns-then-not-free_byte c =
    let p = placed c.self.view_is c.requires.placed in
    rw (← c.self.view_is) (wall_ahead c.self.invariant p _ c.requires.eight (sided (goal.at.returns-then-not-free_byte c).Else-column_barred) _ (led (goal.at.returns-then-not-free_byte c).After-east) _
    c.byte_ahead-there.ensures (sym c.free_byte.ensures ∙ c.if-not-free_byte.true))

pub price-requires-clause-free : goal.price-requires-clause-free
price-requires-clause-free c =
    search (rules, here_free)

pub returns : goal.returns
returns c =
    let p = placed c.self.view_is c.requires.placed in
    rw (← c.self.view_is) (step_to c.self.invariant p _ c.requires.eight (sided (goal.at.returns c).Else-column_barred) _ (led (goal.at.returns c).After-east) _
    c.byte_ahead-there.ensures (sym c.free_byte.ensures ∙ c.if-not-free_byte.false) _ c.price.ensures)
