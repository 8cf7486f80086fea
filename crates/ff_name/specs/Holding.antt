-- The bytes that a text holds, in the value itself or shared.
use Rattle.std.specs.Prelude.{ℕ, List}
use Rattle.std.specs.Rc.{rc_str_bytes}
use Rattle.ff_name.specs.declared.texts.Holding.{Holding}
use Rattle.ff_name.specs.declared.texts.Holding.TheVariants.{Short, Long}

abbrev pub held_bytes : Holding → List ℕ
held_bytes (Short bytes) = bytes
held_bytes (Long text) = rc_str_bytes text
