-- Texts that are put one after another.
use Rattle.std.proofs.Common.{◌≡◌, ◌≤◌, ◌<◌, ℕ, List, [], ◌++◌, Option, Some, None, Result, Ok, Err, OnOk, OnErr, length, take, drop, refl, sym, ap, ◌∙◌, arith, append_assoc, append-nil, length-append}
use Rattle.std.proofs.lemmas.List.{take-append-drop}
use Rattle.std.specs.Prelude.{option_map}
use Rattle.ff_io.specs.Port.{Gains}
use Rattle.ff_status.specs.Putting.{Puts, Stops, Reported}

Gains-both : (before mid now : Option (List ℕ)) (first second : List ℕ) → Gains before mid first → Gains mid now second → Gains before now (first ++ second)
Gains-both None mid now first second g h = h ∙ ap (option_map (λ put. put ++ second)) g
Gains-both (Some put) mid now first second g h = h ∙ ap (option_map (λ put. put ++ second)) g ∙ ap Some (append_assoc put first second)

-- two texts, one after the other
pub puts_both : (before mid now : Option (List ℕ)) (low count high : ℕ) (first second : List ℕ) → Puts before mid low count first → Puts mid now count high second → Puts before now low high (first ++ second)
puts_both before mid now low count high first second f s = record {
  gained = Gains-both before mid now first second f.gained s.gained;
  later = omega (arith, f.later, s.later);
}

-- a write failed in the first one
pub stops_first : (before now : Option (List ℕ)) (low high : ℕ) (first second : List ℕ) → Stops before now low high first → Stops before now low high (first ++ second)
stops_first before now low high first second s = record {
  front = s.front;
  part = record { rest = s.part.rest ++ second; joined = sym (append_assoc s.front s.part.rest second) ∙ ap (λ l. l ++ second) s.part.joined };
  gained = s.gained;
  later = s.later;
  rose = s.rose;
}

-- a write failed in the second one
pub stops_second : (before mid now : Option (List ℕ)) (low count high : ℕ) (first second : List ℕ) → Puts before mid low count first → Stops mid now count high second → Stops before now low high (first ++ second)
stops_second before mid now low count high first second f s = record {
  front = first ++ s.front;
  part = record { rest = s.part.rest; joined = append_assoc first s.front s.part.rest ∙ ap (λ l. first ++ l) s.part.joined };
  gained = Gains-both before mid now first s.front f.gained s.gained;
  later = omega (arith, f.later, s.later);
  rose = omega (arith, f.later, s.rose);
}

-- whatever became of the line
pub reported : {T E : Type 0} (result : Result T E) (before now : Option (List ℕ)) (low high : ℕ) (line : List ℕ)
    → OnOk result (Puts before now low high line) → OnErr result (Stops before now low high line) → Reported before now low high line
reported (Ok x) before now low high line p s = record {
  front = line;
  part = record { rest = []; joined = append-nil line };
  gained = p.gained;
  whole = λ no_fault. refl;
  later = p.later;
}
reported (Err e) before now low high line p s = record {
  front = s.front;
  part = s.part;
  gained = s.gained;
  whole = λ no_fault. absurd (no_fault s.rose);
  later = s.later;
}

-- of the bytes these are left, and those before them were put
pub record SoFar (before now : Option (List ℕ)) (low high : ℕ) (bytes left : List ℕ) : Type 0 where
  pub done : List ℕ
  pub joined : done ++ left ≡ bytes
  pub gained : Gains before now done
  pub later : low ≤ high

pub so_far_more : (before mid now : Option (List ℕ)) (low count high : ℕ) (bytes left after : List ℕ) (n : ℕ)
    → SoFar before mid low count bytes left → Gains mid now (take n left) → count ≤ high → after ≡ drop n left → SoFar before now low high bytes after
so_far_more before mid now low count high bytes left after n so_far gained later e = record {
  done = so_far.done ++ take n left;
  joined = append_assoc so_far.done (take n left) after ∙ ap (λ l. so_far.done ++ l) (ap (λ l. take n left ++ l) e ∙ take-append-drop n left) ∙ so_far.joined;
  gained = Gains-both before mid now so_far.done (take n left) so_far.gained gained;
  later = omega (arith, so_far.later);
}

-- of an empty text nothing is left
pub none_left : (before now : Option (List ℕ)) (low high : ℕ) (bytes left : List ℕ) (n : ℕ) → SoFar before now low high bytes left → 0 < n → n ≤ length left → length bytes ≡ 0 → ⊥
none_left before now low high bytes left n so_far some bound none = omega (arith, ap length so_far.joined, length-append so_far.done left)
