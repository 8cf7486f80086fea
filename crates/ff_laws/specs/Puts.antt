-- Which outputs are put: well spelled ones alone, with the cookies of a request in order.
use Rattle.std.specs.Prelude.{Result, Ok, Err, List, All, map, ⊤}
use Rattle.std.specs.Ordering.{nat_cmp}
use Rattle.std.specs.Cmp.Lexicographic.{slice_cmp}
use Rattle.std.specs.List.Sorted.{IsStrictlySortedBy}
use Rattle.ff_value.specs.Spelled.{IsWellSpelledOut}
use Rattle.ff_value.specs.declared.fault.Fault.{Fault}
use Rattle.ff_value.specs.declared.output.Out.{Out}
use Rattle.ff_value.specs.declared.output.Out.TheVariants as out
use Rattle.ff_machine.specs.Operators.{Outcome}
use Rattle.ff_machine.specs.Reduction.{Moved}

-- the cookies of a request stand in byte order of their keys, each key once
abbrev pub HasOrder : Out → Type 0
HasOrder (out.Send domain request cookies body) = IsStrictlySortedBy (slice_cmp nat_cmp) (map (λ pair. pair.key) cookies)
HasOrder other = ⊤

-- an output that the notation spells, with its cookies in order
pub record IsOut (o : Out) : Type 0 where
  pub spelled : IsWellSpelledOut o
  pub ordered : HasOrder o

-- each of the outputs is one
abbrev pub AreOuts : List Out → Type 0
AreOuts outputs = All IsOut outputs

-- each output of an operator that doesn't fail is one
abbrev pub OutsUnlessFault : Outcome → Type 0
OutsUnlessFault (Ok did) = AreOuts did.outputs
OutsUnlessFault (Err f) = ⊤

-- each output of a reduction that doesn't fail is one
abbrev pub OutsIfMoved : Result Moved Fault → Type 0
OutsIfMoved (Ok moved) = AreOuts moved.outputs
OutsIfMoved (Err f) = ⊤
