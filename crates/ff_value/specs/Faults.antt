-- The words of the faults.
use Rattle.std.specs.Prelude.{ℕ, List, codes}
use Rattle.ff_value.specs.declared.fault.Fault.{Fault}
use Rattle.ff_value.specs.declared.fault.Fault.TheVariants.{Kind, Name, Range, Overflow, Limit, Depth, Dead}

-- the fault's word in an output line, in bytes of ASCII
abbrev pub word_of : Fault → List ℕ
word_of Kind = codes "kind"
word_of Name = codes "name"
word_of Range = codes "range"
word_of Overflow = codes "overflow"
word_of Limit = codes "limit"
word_of Depth = codes "depth"
word_of Dead = codes "dead"
