-- The value of a string, put in runs of bytes that stand for themselves, with the escapes between
-- them.
use Rattle.std.proofs.Common.{◌≡◌, ◌<◌, ◌+◌, ℕ, List, [], ◌∷◌, ◌++◌, Option, length, take, drop, get_or, sym, ap, ◌∙◌, subst, append_assoc, append-nil, flat_map}
use Rattle.std.proofs.lemmas.List.{take_more, take-append-drop}
use Rattle.std.proofs.lemmas.List.Concat.{flat_map-append}
use Rattle.ff_text.specs.Printed.{spelled_byte}
use Rattle.ff_status.specs.Putting.{Puts, Stops}
use Rattle.ff_status.proofs.Sending.{puts_both, stops_first, stops_second}

-- a value is spelled from its two parts
pub spelled_cut : (value : List ℕ) (i : ℕ) → flat_map spelled_byte value ≡ flat_map spelled_byte (take i value) ++ flat_map spelled_byte (drop i value)
spelled_cut value i = ap (flat_map spelled_byte) (sym (take-append-drop i value)) ∙ flat_map-append spelled_byte (take i value) (drop i value)

-- the bytes before a place, the byte there, and the rest
pub value_cut : (value : List ℕ) (i d : ℕ) → i < length value
    → flat_map spelled_byte value ≡ (flat_map spelled_byte (take i value) ++ spelled_byte (get_or value i d)) ++ flat_map spelled_byte (drop (i + 1) value)
value_cut value i d inside =
    spelled_cut value (i + 1)
    ∙ ap (λ l. l ++ flat_map spelled_byte (drop (i + 1) value))
    (ap (flat_map spelled_byte) (take_more value i d inside)
    ∙ flat_map-append spelled_byte (take i value) (get_or value i d ∷ [])
    ∙ ap (λ l. flat_map spelled_byte (take i value) ++ l) (append-nil (spelled_byte (get_or value i d))))

-- a write failed in the run at the front
pub run_stops : {before now : Option (List ℕ)} {low high : ℕ} (value : List ℕ) (n : ℕ) → flat_map spelled_byte (take n value) ≡ take n value
    → Stops before now low high (take n value) → Stops before now low high (flat_map spelled_byte value)
run_stops {before} {now} {low} {high} value n plain stops =
    subst (Stops before now low high) (sym (spelled_cut value n ∙ ap (λ l. l ++ flat_map spelled_byte (drop n value)) plain))
    (stops_first before now low high (take n value) (flat_map spelled_byte (drop n value)) stops)

-- a write failed in what stands for the byte after the run
pub byte_stops : {before mid now : Option (List ℕ)} {low count high : ℕ} (value : List ℕ) (n d : ℕ) → n < length value → flat_map spelled_byte (take n value) ≡ take n value
    → Puts before mid low count (take n value) → Stops mid now count high (spelled_byte (get_or value n d)) → Stops before now low high (flat_map spelled_byte value)
byte_stops {before} {mid} {now} {low} {count} {high} value n d inside plain puts stops =
    let byte = spelled_byte (get_or value n d) in
    let rest = flat_map spelled_byte (drop (n + 1) value) in
    subst (Stops before now low high) (sym (value_cut value n d inside ∙ ap (λ l. (l ++ byte) ++ rest) plain))
    (stops_first before now low high (take n value ++ byte) rest
    (stops_second before mid now low count high (take n value) byte puts stops))

-- of the value these bytes are left, and what stands for those before them was put
pub record SpelledSoFar (before now : Option (List ℕ)) (low high : ℕ) (value left : List ℕ) : Type 0 where
  pub done : List ℕ
  pub joined : done ++ left ≡ value
  pub puts : Puts before now low high (flat_map spelled_byte done)

pub spelled_run : (before mid now : Option (List ℕ)) (low count high : ℕ) (value left after : List ℕ) (n : ℕ)
    → SpelledSoFar before mid low count value left → Puts mid now count high (flat_map spelled_byte (take n left)) → after ≡ drop n left
    → SpelledSoFar before now low high value after
spelled_run before mid now low count high value left after n so_far puts e = record {
  done = so_far.done ++ take n left;
  joined = append_assoc so_far.done (take n left) after ∙ ap (λ l. so_far.done ++ l) (ap (λ l. take n left ++ l) e ∙ take-append-drop n left) ∙ so_far.joined;
  puts = subst (Puts before now low high) (sym (flat_map-append spelled_byte so_far.done (take n left)))
      (puts_both before mid now low count high (flat_map spelled_byte so_far.done) (flat_map spelled_byte (take n left)) so_far.puts puts);
}
