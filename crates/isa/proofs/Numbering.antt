-- Kinds and their numbers.
use mathlib.Core.Bool.{true, false}
use mathlib.Core.Path.{◌≡◌, refl, ap, sym, ◌∙◌}
use mathlib.Core.Logic.{◌≢◌}
use denote.Enum.Bare.{sameb, tag_one, same_true, same_false}
use denote.Enum.Declared.{tag_of}
use Rattle.isa.specs.declared.Kind.{Kind}
use Rattle.isa.specs.declared.Kind.TheVariants.{Unknown, Unsupported, Ext, Variable, Plain, Pick, Goto, IfGoto, End}
use Rattle.isa.specs.contracts.Kind.{the_type}
use Rattle.isa.specs.Joining.Rows.{kind_of}

-- a kind's number is its place
kind_tag : (k : Kind) → kind_of k ≡ tag_of the_type k
kind_tag Unknown = refl
kind_tag Unsupported = refl
kind_tag Ext = refl
kind_tag Variable = refl
kind_tag Plain = refl
kind_tag Pick = refl
kind_tag Goto = refl
kind_tag IfGoto = refl
kind_tag End = refl

-- no two kinds have one number
pub one_kind : (k j : Kind) → kind_of k ≡ kind_of j → k ≡ j
one_kind k j h = tag_one the_type tt k j (sym (kind_tag k) ∙ h ∙ kind_tag j)

-- what a test of two kinds says of their numbers
pub kind_same : (k j : Kind) → true ≡ sameb the_type k j → kind_of k ≡ kind_of j
kind_same k j h = ap kind_of (same_true the_type tt k j (sym h))

pub kind_other : (k j : Kind) → false ≡ sameb the_type k j → kind_of k ≢ kind_of j
kind_other k j h e = same_false the_type k j (sym h) (one_kind k j e)
