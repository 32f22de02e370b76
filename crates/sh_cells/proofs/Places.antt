-- The cell of a side and an even address is that of no other, and its place tells both.
use Rattle.std.proofs.Common.{◌≡◌, ℕ, ◌+◌, ◌-◌, ◌%◌, ◌≤◌, refl, sym, ap, ◌∙◌, arith}
use Rattle.sh_cells.specs.declared.word.Side.{Side}
use Rattle.sh_cells.specs.declared.word.Side.TheVariants.{First, Second}
use Rattle.sh_cells.specs.Words.{side_number}
use Rattle.sh_cells.specs.Places.{cell_place, side_numbered, cell_side, cell_address}

remainder : (at : ℕ) (side : Side) → at % 2 ≡ 0 → (at + side_number side) % 2 ≡ side_number side
remainder at First even = omega (arith, even)
remainder at Second even = omega (arith, even)

side_back : (side : Side) → side_numbered (side_number side) ≡ side
side_back First = refl
side_back Second = refl

offset : (side : Side) (at : ℕ) → cell_place side at - 4097 ≡ at + side_number side
offset side at = let n = side_number side in omega arith

pub cell_side_is : (side : Side) (at : ℕ) → at % 2 ≡ 0 → cell_side (cell_place side at) ≡ side
cell_side_is side at even = ap (λ n. side_numbered (n % 2)) (offset side at) ∙ ap side_numbered (remainder at side even) ∙ side_back side

pub cell_address_is : (side : Side) (at : ℕ) → at % 2 ≡ 0 → cell_address (cell_place side at) ≡ at
cell_address_is side at even =
    ap (λ n. n - n % 2) (offset side at) ∙ ap (λ r. at + side_number side - r) (remainder at side even) ∙ (let n = side_number side in omega arith)

pub same_cell : (side side' : Side) (at at' : ℕ) → at % 2 ≡ 0 → at' % 2 ≡ 0 → cell_place side at ≡ cell_place side' at' → (side ≡ side') × (at ≡ at')
same_cell side side' at at' even even' is = (
  sym (cell_side_is side at even) ∙ ap cell_side is ∙ cell_side_is side' at' even',
  sym (cell_address_is side at even) ∙ ap cell_address is ∙ cell_address_is side' at' even',
)

pub side_number_small : (side : Side) → side_number side ≤ 1
side_number_small First = omega arith
side_number_small Second = omega arith

-- the same where the code has the side's number
pub cell_side_at : (side : Side) (at n : ℕ) → at % 2 ≡ 0 → n ≡ side_number side → cell_side (4097 + at + n) ≡ side
cell_side_at side at n even is = ap (λ m. cell_side (4097 + at + m)) is ∙ cell_side_is side at even

pub cell_address_at : (side : Side) (at n : ℕ) → at % 2 ≡ 0 → n ≡ side_number side → cell_address (4097 + at + n) ≡ at
cell_address_at side at n even is = ap (λ m. cell_address (4097 + at + m)) is ∙ cell_address_is side at even
