-- The rows that the code keeps, by opcode from 00 to 34: operand bytes, cells needed, cells left, kind.
use Rattle.std.specs.Prelude.{List, [], ◌∷◌, ◌≡◌, ℕ, zero, suc, get_or}
use Rattle.isa.specs.Classes.{Class, class_of, row, kind, kind_unknown, kind_unsupported, kind_ext, kind_variable, kind_plain, kind_pick, kind_goto, kind_if_goto, kind_end}
use Rattle.isa.specs.declared.Kind.{Kind}
use Rattle.isa.specs.declared.Kind.TheVariants.{Unknown, Unsupported, Ext, Variable, Plain, Pick, Goto, IfGoto, End}
use Rattle.isa.specs.declared.Row.{Row}

-- the number of a kind
abbrev pub kind_of : Kind → ℕ
kind_of Unknown = kind_unknown
kind_of Unsupported = kind_unsupported
kind_of Ext = kind_ext
kind_of Variable = kind_variable
kind_of Plain = kind_plain
kind_of Pick = kind_pick
kind_of Goto = kind_goto
kind_of IfGoto = kind_if_goto
kind_of End = kind_end

abbrev pub line : Class → List ℕ
line c = get_or (row c) 0 0 ∷ get_or (row c) 1 0 ∷ get_or (row c) 2 0 ∷ kind c ∷ []

unfoldable pub rows_from : ℕ → ℕ → List (List ℕ)
rows_from op zero = []
rows_from op (suc n) = line (class_of op) ∷ rows_from (suc op) n

unfoldable pub table : List (List ℕ)
unfolding rows_from
table = rows_from 0 53

-- the line that a row of the code stands for
abbrev pub line_of : Row → List ℕ
line_of r = r.operands ∷ r.needed ∷ r.left ∷ kind_of r.kind ∷ []

-- r is the row of the opcode
pub record IsRow (op : ℕ) (r : Row) : Type 0 where
  pub operands_is : r.operands ≡ get_or (row (class_of op)) 0 0
  pub needed_is : r.needed ≡ get_or (row (class_of op)) 1 0
  pub left_is : r.left ≡ get_or (row (class_of op)) 2 0
  pub kind_is : kind_of r.kind ≡ kind (class_of op)
