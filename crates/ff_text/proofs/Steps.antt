-- What one byte does, by the class of the byte.
use Rattle.std.proofs.Common.{◌≡◌, ℕ, true, false, Ok, Err}
use Rattle.std.specs.Str.{is_utf8}
use Rattle.ff_text.specs.Machine.{end_str, str_ended}
use Rattle.ff_text.specs.declared.reader.Reader.{Reader}
use Rattle.ff_text.specs.declared.items.TextFault.TheVariants as fault

pub end_str-good : (r : Reader) (from : ℕ) → is_utf8 r.value ≡ true → end_str r from ≡ Ok (str_ended r from)
end_str-good r from test = rw test

pub end_str-bad : (r : Reader) (from : ℕ) → is_utf8 r.value ≡ false → end_str r from ≡ Err (fault.BadUtf8 from)
end_str-bad r from test = rw test
