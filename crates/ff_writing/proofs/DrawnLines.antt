-- The lines that are drawn: each ends with a newline, and is short.
use Rattle.std.proofs.Common.{◌≡◌, ℕ, ◌+◌, ◌*◌, ◌<◌, ◌≤◌, ◌^◌, ◌==◌, ◌%◌, Bool, true, false, if◌then◌else◌, Option, Some, None, List, [], ◌∷◌, ◌++◌, length, codes, refl, sym, ap, ap₂, ◌∙◌, append_assoc, length-append, arith}
use Rattle.std.specs.Option.{IsSome, option_to_list}
use Rattle.std.proofs.lemmas.Fmt.{length-decimal-le}
use Rattle.std.proofs.lemmas.Bool.{false≢true}
use Rattle.std.proofs.lemmas.Nat.{mod_below}
use Rattle.ff_number.specs.Decimal.{nat_text}
use Rattle.ff_gen.specs.Workload.{following, typed, line_of, draw_of}

pub record IsShortLine (bytes : List ℕ) : Type 0 where
  pub line : List ℕ
  pub is : bytes ≡ line ++ 10 ∷ []
  pub short : length bytes ≤ 300

either : (b : Bool) (x y : List ℕ) → IsShortLine x → IsShortLine y → IsShortLine (if b then x else y)
either true x y first second = first
either false x y first second = second

typed_line : (head : List ℕ) (draw : ℕ) → length head ≤ 20 → draw < 65536 → IsShortLine (typed head draw)
typed_line head draw few small =
    let digits = length-decimal-le 5 draw (omega arith) (omega arith) (omega arith) in
    let inner = length-append (nat_text draw) (codes "\"\n") in
    let all = length-append head (nat_text draw ++ codes "\"\n") in
    record {
      line = head ++ (nat_text draw ++ 34 ∷ []);
      is = ap (λ bs. head ++ bs) (sym (append_assoc (nat_text draw) (34 ∷ []) (10 ∷ []))) ∙ sym (append_assoc head (nat_text draw ++ 34 ∷ []) (10 ∷ []));
      short = omega (arith, digits, inner, all);
    }

pub short_line : (draw : ℕ) → draw < 65536 → IsShortLine (line_of draw)
short_line draw small =
    either (draw % 8 == 0) _ _ (record { line = codes "open http://a.com/p"; is = refl; short = omega arith })
    (either (draw % 8 == 1) _ _ (record { line = codes "reply a.com 0 (doc () (box b \"\" (fn (n) (ask \"http://b.com/q\" (text n) (fn (r) null)))) (button g \"go\" (fn (n) (set-text n (cat \"s\" (text (find (page (self)) \"b\")))))))"; is = refl; short = omega arith })
    (either (draw % 8 == 2) _ _ (typed_line (codes "type 0 0 \"t") draw (omega arith) small)
    (either (draw % 8 == 3) _ _ (typed_line (codes "@H type 0 0 \"s") draw (omega arith) small)
    (either (draw % 8 == 4) _ _ (record { line = codes "click 0 0"; is = refl; short = omega arith })
    (either (draw % 8 == 5) _ _ (record { line = codes "reply b.com 0 (data () \"ok\")"; is = refl; short = omega arith })
    (either (draw % 8 == 6) _ _ (record { line = codes "@H click 0 0"; is = refl; short = omega arith })
    (record { line = codes "go 0 http://a.com/p"; is = refl; short = omega arith })))))))

abbrev rest_of : List ℕ → List ℕ
rest_of [] = []
rest_of (x ∷ xs) = xs

abbrev first_of : List ℕ → ℕ
first_of [] = 0
first_of (x ∷ xs) = x

-- what stands before the last of equal lists is equal
pub same_front : (xs ys : List ℕ) (x y : ℕ) → xs ++ x ∷ [] ≡ ys ++ y ∷ [] → xs ≡ ys
same_front [] [] x y same = refl
same_front [] (z ∷ zs) x y same = let long = ap length same in let more = length-append zs (y ∷ []) in absurd (omega (arith, long, more))
same_front (z ∷ zs) [] x y same = let long = ap length same in let more = length-append zs (x ∷ []) in absurd (omega (arith, long, more))
same_front (w ∷ ws) (z ∷ zs) x y same = ap₂ (λ a bs. a ∷ bs) (ap first_of same) (same_front ws zs x y (ap rest_of same))

-- the draw of a number has 16 bits
small_draw : (number old : ℕ) → number ≡ following old → draw_of number < 65536
small_draw number old is =
    let below = mod_below (1664525 * old + 1013904223) (2 ^ 32) (omega arith) in
    omega (arith, is, below)

-- a drawn line without the byte that was taken from its end
pub drawn_line : (number : ℕ) (start full popped : List ℕ) (last : Option ℕ) → (old : ℕ) → number ≡ following old → start ≡ [] → full ≡ start ++ line_of (draw_of number) → full ≡ popped ++ option_to_list last → IsSome last
    → line_of (draw_of number) ≡ popped ++ 10 ∷ []
drawn_line number start full popped None old small none made cut some = absurd (false≢true some)
drawn_line number start full popped (Some x) old small none made cut some =
    let ends = short_line (draw_of number) (small_draw number old small) in
    let whole : line_of (draw_of number) ≡ popped ++ x ∷ [] = sym (made ∙ ap (λ bs. bs ++ line_of (draw_of number)) none) ∙ cut in
    let same : ends.line ≡ popped = same_front ends.line popped 10 x (sym ends.is ∙ whole) in
    ends.is ∙ ap (λ bs. bs ++ 10 ∷ []) same

pub drawn_short : (number : ℕ) (start full popped : List ℕ) (last : Option ℕ) → (old : ℕ) → number ≡ following old → start ≡ [] → full ≡ start ++ line_of (draw_of number) → full ≡ popped ++ option_to_list last → length popped ≤ 300
drawn_short number start full popped last old small none made cut =
    let ends = short_line (draw_of number) (small_draw number old small) in
    let short = ends.short in
    let whole = ap length (sym (made ∙ ap (λ bs. bs ++ line_of (draw_of number)) none) ∙ cut) in
    let parts = length-append popped (option_to_list last) in
    omega (arith, short, whole, parts)
