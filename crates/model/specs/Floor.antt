-- Floor, moves, distance.
use Rattle.std.specs.Prelude.{ℕ, zero, suc, ◌+◌, ◌-◌, ◌*◌, ◌/◌, ◌%◌, ◌≤◌, min, ◌≡◌, Bool, true, false, ◌&&◌, ◌||◌, List, [], ◌∷◌, ltb, leb, eqb, length, get_or, take}
use Rattle.learning.specs.Ground.{pick, list_of}
use Rattle.learning.specs.Look.{lowest}
use Rattle.answers.specs.declared.Goals.{Goals}

pub record Floor : Type 0 where
  pub width : ℕ
  pub height : ℕ
  pub bytes : List ℕ

abbrev pub size : Floor → ℕ
size f = f.width * f.height

-- width and height 1 to 64, and a byte for each cell
pub record Sized (f : Floor) : Type 0 where
  pub wide : 1 ≤ f.width
  pub narrow : f.width ≤ 64
  pub high : 1 ≤ f.height
  pub low : f.height ≤ 64
  pub cells : length f.bytes ≡ size f

-- cell number = row × width + column, from the top left
abbrev pub column : Floor → ℕ → ℕ
column f x = x % f.width

abbrev pub row : Floor → ℕ → ℕ
row f x = x / f.width

-- a floor byte 0 is free, "the floor byte 2 means slow and free", and 1, as every other byte, is blocked
abbrev pub plain_byte : ℕ
plain_byte = 0

abbrev pub blocked_byte : ℕ
blocked_byte = 1

abbrev pub slow_byte : ℕ
slow_byte = 2

abbrev pub free_byte : ℕ → Bool
free_byte b = eqb b plain_byte || eqb b slow_byte

unfoldable pub free : Floor → ℕ → Bool
free f x = ltb x (size f) && free_byte (get_or f.bytes x 0)

unfoldable pub slow : Floor → ℕ → Bool
slow f x = eqb (get_or f.bytes x 0) slow_byte

-- how far apart two numbers are
abbrev pub apart : ℕ → ℕ → ℕ
apart a b = (a - b) + (b - a)

-- a straight move costs 10, a diagonal one 14
abbrev pub straight : ℕ
straight = 10

abbrev pub diagonal : ℕ
diagonal = 14

-- "A move that begins or ends in a slow cell costs double, 20 or 28, the same each way": what it costs where it would cost n without
abbrev pub doubled : (slow : Bool) → ℕ → ℕ
doubled true n = 2 * n
doubled false n = n

abbrev pub slowly : Floor → ℕ → ℕ → Bool
slowly f a b = slow f a || slow f b

-- the least and the dearest price of a move: what is bounded by a price is bounded by these
abbrev pub least_price : ℕ
least_price = straight

abbrev pub dearest_price : ℕ
dearest_price = doubled true diagonal

-- by the columns and rows moved, together
abbrev pub tariff : ℕ → ℕ
tariff zero = 0
tariff (suc zero) = straight
tariff (suc (suc zero)) = diagonal
tariff (suc (suc (suc n))) = 0

-- of two cells dx columns and dy rows apart: the cost of the move from one to the other where the way is clear, and 0 where there is none
abbrev pub fare : (clear slow : Bool) → ℕ → ℕ → ℕ
fare clear slow dx dy = pick (leb dx 1 && leb dy 1 && clear) (doubled slow (tariff (dx + dy))) 0

-- the cell in the row of a and the column of b: a straight cell beside the diagonal from a to b, the other one being that of b and a; of a straight move an end
abbrev pub corner : Floor → ℕ → ℕ → ℕ
corner f a b = row f a * f.width + column f b

-- whether the cells are free that a move between a and b needs free: both ends, and "a diagonal needs both straight cells beside it free as well"
unfoldable pub clear : Floor → ℕ → ℕ → Bool
clear f a b = (free f a && free f b) && (free f (corner f a b) && free f (corner f b a))

-- the cost of the move from a to b, and 0 where no move from a leads to b: THE definition of movement, all else follows it
unfoldable pub price : Floor → ℕ → ℕ → ℕ
price f a b = fare (clear f a b) (slowly f a b) (apart (column f a) (column f b)) (apart (row f a) (row f b))

-- the eight moves, 0 N, 1 NE, 2 E, 3 SE, 4 S, 5 SW, 6 W, 7 NW: how far each goes east and south, counted so that 1 is not at all
abbrev pub east : ℕ → ℕ
east m = get_or (1 ∷ 2 ∷ 2 ∷ 2 ∷ 1 ∷ 0 ∷ 0 ∷ 0 ∷ []) m 0

abbrev pub south : ℕ → ℕ
south m = get_or (0 ∷ 0 ∷ 1 ∷ 2 ∷ 2 ∷ 2 ∷ 1 ∷ 0 ∷ []) m 0

-- the cell that move m leads to from x, and whether it is on the floor
unfoldable pub ahead : Floor → ℕ → ℕ → ℕ
ahead f x m = (row f x + south m - 1) * f.width + (column f x + east m - 1)

unfoldable pub inside : Floor → ℕ → ℕ → Bool
inside f x m = leb 1 (column f x + east m) && leb (column f x + east m) f.width && leb 1 (row f x + south m) && leb (row f x + south m) f.height

-- "A move is allowed when the cell moved into is on the floor and free", and as `clear` says: where there is a price for it, which asks that the cell left is free too
unfoldable pub allowed : Floor → ℕ → ℕ → Bool
allowed f x m = inside f x m && leb 1 (price f x (ahead f x m))

-- the move that leads from a to b, 8 where none does; and the move that goes back
unfoldable pub heading : Floor → ℕ → ℕ → ℕ
heading f a b = lowest 8 (λ m. allowed f a m && eqb (ahead f a m) b)

abbrev pub opposite : ℕ → ℕ
opposite m = (m + 4) % 8

-- the opening figure of the cell x: q × (14 × the smaller + 10 × the difference of the columns and rows to the goal g)
unfoldable pub octile : Floor → ℕ → ℕ → ℕ → ℕ
octile f q g x =
    let dx = apart (column f x) (column f g) in
    let dy = apart (row f x) (row f g) in
    q * (diagonal * min dx dy + straight * apart dx dy)

-- "A job may name 1 to 4 goals": the places that a job has for them, and those of the goals that it names, four at most. One goal is a job's that names no other
abbrev pub places_for : Goals → List ℕ
places_for g = g.first ∷ g.second ∷ g.third ∷ g.fourth ∷ []

unfoldable pub goals_of : Goals → List ℕ
goals_of g = take g.count (places_for g)

abbrev pub one_goal : ℕ → Goals
one_goal goal = record { count = 1; first = goal; second = 0; third = 0; fourth = 0 }

-- "the opening figure is the least over them"
unfoldable pub opening : Floor → ℕ → List ℕ → ℕ → ℕ
opening f q [] x = 0
opening f q (g ∷ []) x = octile f q g x
opening f q (g ∷ h ∷ gs) x = min (octile f q g x) (opening f q (h ∷ gs) x)

-- the table of opening figures; blocked cells have one too
unfoldable pub opening_table : Floor → ℕ → List ℕ → List ℕ
opening_table f q gs = list_of (size f) (opening f q gs)
