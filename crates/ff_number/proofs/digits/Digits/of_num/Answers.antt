use Rattle.std.proofs.Common.{◌≡◌, ◌≤◌, ◌^◌, ◌+◌, ◌-◌, ℕ, List, ◌∷◌, length, drop, slice_set, arith, rules, refl, sym, ap, ◌∙◌, unsigned_abs, pos, ◌<ℤ◌}
use Rattle.std.specs.Fmt.{decimal}
use Rattle.std.proofs.lemmas.Fmt.{length-decimal-le}
use Rattle.std.specs.Int.{w64}
use Rattle.std.proofs.lemmas.Int.{to_z-of_z, ints}
use Rattle.std.proofs.lemmas.Grind.{drop-set_at}
use Rattle.std.proofs.lemmas.List.{append-nil}
use Rattle.ff_number.proofs.Signed.{num_text-after_minus}
use Rattle.ff_number.proofs.digits.Digits.of_num.Goals as goal

-- the digits of a size of 63 bits leave a place in front
short : (n : ℕ) → n ≤ 2 ^ 63 → length (decimal n) ≤ 19
short n small = length-decimal-le 19 n (omega arith) (omega arith) (omega arith)

-- a minus that is put before digits at the end stands before them
put_before : (buffer digits : List ℕ) (start : ℕ) → 1 ≤ start → start ≤ length buffer → drop start buffer ≡ digits
    → drop (start - 1) (slice_set buffer (start - 1) 45) ≡ 45 ∷ digits
put_before buffer digits start some within e =
    let next : start - 1 + 1 ≡ start = omega arith in
    drop-set_at buffer (start - 1) (start - 1) 45 refl (omega arith) ∙ ap (λ (d : List ℕ). 45 ∷ d) (ap (λ (i : ℕ). drop i buffer) next ∙ e)

pub write_digits-start-requires : goal.write_digits-start-requires
write_digits-start-requires c = (omega (arith, short c.unsigned_abs.result c.unsigned_abs.ensures.bound), omega arith)

pub overflow_sub-buffer : goal.overflow_sub-buffer
overflow_sub-buffer c = omega (arith, short c.unsigned_abs.result c.unsigned_abs.ensures.bound, c.write_digits-start.ensures.start)

pub overflow_sub-result : goal.overflow_sub-result
overflow_sub-result c = omega (arith, short c.unsigned_abs.result c.unsigned_abs.ensures.bound, c.write_digits-start.ensures.start)

pub returns : goal.returns
returns c =
    let some : 1 ≤ c.write_digits-start.result = omega (arith, short c.unsigned_abs.result c.unsigned_abs.ensures.bound, c.write_digits-start.ensures.start) in
    let within : c.write_digits-start.result ≤ length c.write_digits-start.new.buf = search rules in
    let written : drop c.write_digits-start.result c.write_digits-start.new.buf ≡ decimal c.unsigned_abs.result = c.write_digits-start.ensures.written ∙ append-nil _ in
    let size : c.unsigned_abs.result ≡ unsigned_abs c.args.n = c.unsigned_abs.ensures.value ∙ ap unsigned_abs (to_z-of_z w64 c.args.n c.ranges.n) in
    let negative : c.args.n <ℤ pos 0 = omega (arith, ints) in
    put_before c.write_digits-start.new.buf (decimal c.unsigned_abs.result) c.write_digits-start.result some within written
    ∙ sym (num_text-after_minus c.args.n c.unsigned_abs.result size negative)
