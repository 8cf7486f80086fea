-- The tape of a port in memory: its bytes by side, and one piece more.
use Rattle.std.proofs.Common.{◌≡◌, ℕ, ◌+◌, ◌≤◌, List, [], ◌∷◌, ◌++◌, take, drop, length, Result, Ok, Err, OnOk, OnErr, refl, ap, sym, arith, length-append, length-drop}
use Rattle.std.proofs.lemmas.List.{take-append-drop, take-append-le, drop-append-le}
use Rattle.std.proofs.Math.Seq.{take-length}
use Rattle.ff_io.specs.Pieces.{got_of, put_of}
use Rattle.ff_io.specs.Pieces.Piece.{Got, Put}
use Rattle.ff_io.specs.Tape.{replay, count_in, count_out, Cuts}
use Rattle.ff_io.specs.declared.tape.Step.{Step}
use Rattle.ff_io.specs.declared.tape.Step.TheVariants.{In, Out}

-- a list without elements
nil_of_length : (bytes : List ℕ) → 0 ≡ length bytes → bytes ≡ []
nil_of_length [] e = refl
nil_of_length (b ∷ bs) e = absurd (omega arith)

-- the bytes got are those of the reads
pub got_of-replay : (steps : List Step) (got put : List ℕ) → count_in steps ≡ length got → got_of (replay steps got put) ≡ got
got_of-replay [] got put e = sym (nil_of_length got e)
got_of-replay (In n ∷ steps) got put e =
    rw (got_of-replay steps (drop n got) put (omega (arith, length-drop n got))) (take-append-drop n got)
got_of-replay (Out n ∷ steps) got put e = got_of-replay steps got (drop n put) e

-- the bytes put are those of the writes
pub put_of-replay : (steps : List Step) (got put : List ℕ) → count_out steps ≡ length put → put_of (replay steps got put) ≡ put
put_of-replay [] got put e = sym (nil_of_length put e)
put_of-replay (In n ∷ steps) got put e = put_of-replay steps (drop n got) put e
put_of-replay (Out n ∷ steps) got put e =
    rw (put_of-replay steps got (drop n put) (omega (arith, length-drop n put))) (take-append-drop n put)

-- one step more
count_in-push : (steps : List Step) (step : Step) → count_in (steps ++ step ∷ []) ≡ count_in steps + count_in (step ∷ [])
count_in-push [] step = omega arith
count_in-push (In n ∷ steps) step = omega (arith, count_in-push steps step)
count_in-push (Out n ∷ steps) step = count_in-push steps step

count_out-push : (steps : List Step) (step : Step) → count_out (steps ++ step ∷ []) ≡ count_out steps + count_out (step ∷ [])
count_out-push [] step = omega arith
count_out-push (In n ∷ steps) step = count_out-push steps step
count_out-push (Out n ∷ steps) step = omega (arith, count_out-push steps step)

Cuts-got : (steps : List Step) (got put bytes : List ℕ) → Cuts steps got put → Cuts (steps ++ In (length bytes) ∷ []) (got ++ bytes) put
Cuts-got steps got put bytes cuts = record {
  got_all = rw (count_in-push steps (In (length bytes))) (omega (arith, cuts.got_all, length-append got bytes));
  put_all = rw (count_out-push steps (In (length bytes))) (omega (arith, cuts.put_all));
}

Cuts-put : (steps : List Step) (got put bytes : List ℕ) → Cuts steps got put → Cuts (steps ++ Out (length bytes) ∷ []) got (put ++ bytes)
Cuts-put steps got put bytes cuts = record {
  got_all = rw (count_in-push steps (Out (length bytes))) (omega (arith, cuts.got_all));
  put_all = rw (count_out-push steps (Out (length bytes))) (omega (arith, cuts.put_all, length-append put bytes));
}

-- a read more
replay-got : (steps : List Step) (got put bytes : List ℕ) → count_in steps ≡ length got → replay (steps ++ In (length bytes) ∷ []) (got ++ bytes) put ≡ replay steps got put ++ Got bytes ∷ []
replay-got [] got put bytes e = rw (nil_of_length got e) (ap (λ b. Got b ∷ []) (take-length bytes))
replay-got (In n ∷ steps) got put bytes e =
    let bound : n ≤ length got = omega arith in
    rw (take-append-le n got bytes bound, drop-append-le n got bytes bound)
    (ap (λ ps. Got (take n got) ∷ ps) (replay-got steps (drop n got) put bytes (omega (arith, length-drop n got))))
replay-got (Out n ∷ steps) got put bytes e =
    ap (λ ps. Put (take n put) ∷ ps) (replay-got steps got (drop n put) bytes e)

-- a write more
replay-put : (steps : List Step) (got put bytes : List ℕ) → count_out steps ≡ length put → replay (steps ++ Out (length bytes) ∷ []) got (put ++ bytes) ≡ replay steps got put ++ Put bytes ∷ []
replay-put [] got put bytes e = rw (nil_of_length put e) (ap (λ b. Put b ∷ []) (take-length bytes))
replay-put (In n ∷ steps) got put bytes e =
    ap (λ ps. Got (take n got) ∷ ps) (replay-put steps (drop n got) put bytes e)
replay-put (Out n ∷ steps) got put bytes e =
    let bound : n ≤ length put = omega arith in
    rw (take-append-le n put bytes bound, drop-append-le n put bytes bound)
    (ap (λ ps. Put (take n put) ∷ ps) (replay-put steps got (drop n put) bytes (omega (arith, length-drop n put))))

-- after a read was kept, or was not
pub got_kept : {E : Type 0} (result : Result (Unit {0}) E) (steps now : List Step) (got got_now put bytes : List ℕ) → Cuts steps got put → OnOk result (got_now ≡ got ++ bytes) → OnOk result (now ≡ steps ++ In (length bytes) ∷ []) → OnErr result ((got_now ≡ got) × (now ≡ steps)) → Cuts now got_now put × OnOk result (replay now got_now put ≡ replay steps got put ++ Got bytes ∷ [])
got_kept (Ok u) steps now got got_now put bytes cuts side step none =
    rw (side, step) (Cuts-got steps got put bytes cuts, replay-got steps got put bytes cuts.got_all)
got_kept (Err e) steps now got got_now put bytes cuts side step none = rw (none.0, none.1) (cuts, tt)

-- after a write was kept, or was not
pub put_kept : {E : Type 0} (result : Result (Unit {0}) E) (steps now : List Step) (got put put_now bytes : List ℕ) → Cuts steps got put → OnOk result (put_now ≡ put ++ bytes) → OnOk result (now ≡ steps ++ Out (length bytes) ∷ []) → OnErr result ((put_now ≡ put) × (now ≡ steps)) → Cuts now got put_now × OnOk result (replay now got put_now ≡ replay steps got put ++ Put bytes ∷ [])
put_kept (Ok u) steps now got put put_now bytes cuts side step none =
    rw (side, step) (Cuts-put steps got put bytes cuts, replay-put steps got put bytes cuts.put_all)
put_kept (Err e) steps now got put put_now bytes cuts side step none = rw (none.0, none.1) (cuts, tt)
