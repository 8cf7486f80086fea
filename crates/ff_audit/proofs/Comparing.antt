-- Two growing lists of lines, compared.
use Rattle.std.proofs.Common.{◌≡◌, ◌≢◌, ℕ, suc, ◌+◌, ◌<◌, Bool, true, false, cond, bytes_eq, Option, Some, None, Result, Ok, Err, List, [], ◌∷◌, ◌++◌, length, drop, take, slice_index_or, ◌==◌, not, refl, sym, ap, subst, ◌∙◌, append-nil, append_assoc, arith}
use Rattle.std.specs.Result.{OnOk}
use Rattle.std.proofs.lemmas.Bool.{ne_eqb}
use Rattle.std.proofs.lemmas.Slice.Eq.{bytes_eq-Decides}
use Rattle.ff_audit.specs.Comparing.{compared, differs, first, found, ArePart, Compares, ComparesNext, plain_more, multi_more}
use Rattle.ff_audit.specs.declared.comparison.Side.TheVariants.{Plain, Multi}
use Rattle.ff_audit.specs.declared.verdict.Verdict.TheVariants.{Differs}

pub compares_none : Compares 0 [] [] [] []
compares_none = record { part = tt; goes = λ xs ys. refl }

same_bytes : (line : List ℕ) → bytes_eq line line ≡ true
same_bytes line = from (bytes_eq line line) refl
  where
    from : (t : Bool) → bytes_eq line line ≡ t → bytes_eq line line ≡ true
    from true is = is
    from false is = (bytes_eq-Decides line line).1 refl

other_bytes : (a b : List ℕ) → a ≢ b → bytes_eq a b ≡ false
other_bytes a b differ = from (bytes_eq a b) refl
  where
    from : (t : Bool) → bytes_eq a b ≡ t → bytes_eq a b ≡ false
    from true is = absurd (differ ((bytes_eq-Decides a b).0 is))
    from false is = is

push : (xs ys : List (List ℕ)) (x : List ℕ) → (xs ++ x ∷ []) ++ ys ≡ xs ++ x ∷ ys
push xs ys x = append_assoc xs (x ∷ []) ys

-- where the lists differ already, what comes behind changes nothing
fixed : (n : ℕ) (p m : List ℕ) (ps ms qs ns : List (List ℕ)) → bytes_eq p m ≡ false → compared n (p ∷ ps) (m ∷ ms) ≡ compared n (p ∷ qs) (m ∷ ns)
fixed n p m ps ms qs ns differ =
    ap (λ b. cond b (compared (suc n) ps ms) (Differs (suc n) (Some p) (Some m))) differ
    ∙ sym (ap (λ b. cond b (compared (suc n) qs ns) (Differs (suc n) (Some p) (Some m))) differ)

-- a line of the plain program
plain_line : (equal : ℕ) (plain multi : List (List ℕ)) (line : List ℕ) (plain' multi' : List (List ℕ)) (equal' : ℕ) (ps ms : List (List ℕ))
    → ComparesNext plain multi equal line plain' multi' equal' → Compares equal plain multi ps ms → Compares equal' plain' multi' (ps ++ line ∷ []) ms
plain_line equal plain multi line _ _ _ ps ms (ComparesNext.waits none) has = record {
  part = subst (λ ns. ArePart (plain ++ line ∷ []) ns) (sym none) (nothing (plain ++ line ∷ []));
  goes = λ xs ys. ap (λ qs. compared 0 qs (ms ++ ys)) (push ps xs line) ∙ has.goes (line ∷ xs) ys ∙ sym (ap (λ qs. compared equal qs (multi ++ ys)) (push plain xs line));
}
  where
    nothing : (qs : List (List ℕ)) → ArePart qs []
    nothing [] = tt
    nothing (q ∷ qs) = tt
plain_line equal plain multi line _ multi' _ ps ms (ComparesNext.agrees rest none other) has = record {
  part = subst (λ qs. ArePart qs rest) (sym none) tt;
  goes = λ xs ys.
      ap (λ qs. compared 0 qs (ms ++ ys)) (push ps xs line) ∙ has.goes (line ∷ xs) ys
      ∙ ap (λ qs. compared equal (qs ++ line ∷ xs) (multi ++ ys)) none ∙ ap (λ ns. compared equal (line ∷ xs) (ns ++ ys)) other
      ∙ ap (λ b. cond b (compared (suc equal) xs (rest ++ ys)) (Differs (suc equal) (Some line) (Some line))) (same_bytes line)
      ∙ ap (λ n. compared n xs (rest ++ ys)) (one equal) ∙ sym (ap (λ qs. compared (equal + 1) (qs ++ xs) (rest ++ ys)) none);
}
  where
    one : (n : ℕ) → suc n ≡ n + 1
    one n = omega arith
plain_line equal plain multi line _ _ _ ps ms (ComparesNext.parts next rest none other differ) has = record {
  part = other_bytes line next (λ e. differ (sym e));
  goes = λ xs ys.
      ap (λ qs. compared 0 qs (ms ++ ys)) (push ps xs line) ∙ has.goes (line ∷ xs) ys
      ∙ ap (λ qs. compared equal (qs ++ line ∷ xs) (multi ++ ys)) none ∙ ap (λ ns. compared equal (line ∷ xs) (ns ++ ys)) other
      ∙ fixed equal line next xs (rest ++ ys) xs ys (other_bytes line next (λ e. differ (sym e)));
}
plain_line equal [] multi line _ _ _ ps ms (ComparesNext.apart some more) has = absurd (omega arith)
plain_line equal (p ∷ plain) [] line _ _ _ ps ms (ComparesNext.apart some more) has = absurd (omega arith)
plain_line equal (p ∷ plain) (m ∷ multi) line _ _ _ ps ms (ComparesNext.apart some more) has = record {
  part = has.part;
  goes = λ xs ys. ap (λ qs. compared 0 qs (ms ++ ys)) (push ps xs line) ∙ has.goes (line ∷ xs) ys ∙ fixed equal p m (plain ++ line ∷ xs) (multi ++ ys) (plain ++ xs) (multi ++ ys) has.part;
}

-- and of the multi-executed one
multi_line : (equal : ℕ) (plain multi : List (List ℕ)) (line : List ℕ) (plain' multi' : List (List ℕ)) (equal' : ℕ) (ps ms : List (List ℕ))
    → ComparesNext multi plain equal line multi' plain' equal' → Compares equal plain multi ps ms → Compares equal' plain' multi' ps (ms ++ line ∷ [])
multi_line equal plain multi line _ _ _ ps ms (ComparesNext.waits none) has = record {
  part = subst (λ qs. ArePart qs (multi ++ line ∷ [])) (sym none) (nothing (multi ++ line ∷ []));
  goes = λ xs ys. ap (compared 0 (ps ++ xs)) (push ms ys line) ∙ has.goes xs (line ∷ ys) ∙ sym (ap (compared equal (plain ++ xs)) (push multi ys line));
}
  where
    nothing : (qs : List (List ℕ)) → ArePart [] qs
    nothing [] = tt
    nothing (q ∷ qs) = tt
multi_line equal plain multi line plain' _ _ ps ms (ComparesNext.agrees rest none other) has = record {
  part = subst (λ ns. ArePart rest ns) (sym none) (nothing rest);
  goes = λ xs ys.
      ap (compared 0 (ps ++ xs)) (push ms ys line) ∙ has.goes xs (line ∷ ys)
      ∙ ap (λ ns. compared equal (plain ++ xs) (ns ++ line ∷ ys)) none ∙ ap (λ qs. compared equal (qs ++ xs) (line ∷ ys)) other
      ∙ ap (λ b. cond b (compared (suc equal) (rest ++ xs) ys) (Differs (suc equal) (Some line) (Some line))) (same_bytes line)
      ∙ ap (λ n. compared n (rest ++ xs) ys) (one equal) ∙ sym (ap (λ ns. compared (equal + 1) (rest ++ xs) (ns ++ ys)) none);
}
  where
    one : (n : ℕ) → suc n ≡ n + 1
    one n = omega arith

    nothing : (qs : List (List ℕ)) → ArePart qs []
    nothing [] = tt
    nothing (q ∷ qs) = tt
multi_line equal plain multi line _ _ _ ps ms (ComparesNext.parts next rest none other differ) has = record {
  part = other_bytes next line differ;
  goes = λ xs ys.
      ap (compared 0 (ps ++ xs)) (push ms ys line) ∙ has.goes xs (line ∷ ys)
      ∙ ap (λ ns. compared equal (plain ++ xs) (ns ++ line ∷ ys)) none ∙ ap (λ qs. compared equal (qs ++ xs) (line ∷ ys)) other
      ∙ fixed equal next line (rest ++ xs) ys xs ys (other_bytes next line differ);
}
multi_line equal plain [] line _ _ _ ps ms (ComparesNext.apart some more) has = absurd (omega arith)
multi_line equal [] (m ∷ multi) line _ _ _ ps ms (ComparesNext.apart some more) has = absurd (omega arith)
multi_line equal (p ∷ plain) (m ∷ multi) line _ _ _ ps ms (ComparesNext.apart some more) has = record {
  part = has.part;
  goes = λ xs ys. ap (compared 0 (ps ++ xs)) (push ms ys line) ∙ has.goes xs (line ∷ ys) ∙ fixed equal p m (plain ++ xs) (multi ++ line ∷ ys) (plain ++ xs) (multi ++ ys) has.part;
}

pub plain_meets : {T E : Type 0} (r : Result T E) (equal : ℕ) (plain multi : List (List ℕ)) (line : List ℕ) (plain' multi' : List (List ℕ)) (equal' : ℕ)
    → OnOk r (ComparesNext plain multi equal line plain' multi' equal')
    → OnOk r ((ps ms : List (List ℕ)) → Compares equal plain multi ps ms → Compares equal' plain' multi' (plain_more Plain ps (line ∷ [])) (multi_more Plain ms (line ∷ [])))
plain_meets (Ok done) equal plain multi line plain' multi' equal' meets = λ ps ms has. plain_line equal plain multi line plain' multi' equal' ps ms meets has
plain_meets (Err e) equal plain multi line plain' multi' equal' meets = tt

pub multi_meets : {T E : Type 0} (r : Result T E) (equal : ℕ) (plain multi : List (List ℕ)) (line : List ℕ) (plain' multi' : List (List ℕ)) (equal' : ℕ)
    → OnOk r (ComparesNext multi plain equal line multi' plain' equal')
    → OnOk r ((ps ms : List (List ℕ)) → Compares equal plain multi ps ms → Compares equal' plain' multi' (plain_more Multi ps (line ∷ [])) (multi_more Multi ms (line ∷ [])))
multi_meets (Ok done) equal plain multi line plain' multi' equal' meets = λ ps ms has. multi_line equal plain multi line plain' multi' equal' ps ms meets has
multi_meets (Err e) equal plain multi line plain' multi' equal' meets = tt

-- one line that is the same in both
pub same_line : (equal more : ℕ) (plain multi : List (List ℕ)) → plain ≡ [] → multi ≡ [] → more ≡ equal + 1
    → (line : List ℕ) (ps ms : List (List ℕ)) → Compares equal plain multi ps ms → Compares more plain multi (ps ++ line ∷ []) (ms ++ line ∷ [])
same_line equal more plain multi no_plain no_multi counted line ps ms has =
    multi_line equal (plain ++ line ∷ []) multi line plain multi more (ps ++ line ∷ []) ms
    (subst (λ n. ComparesNext multi (plain ++ line ∷ []) equal line multi plain n) (sym counted) (ComparesNext.agrees plain no_multi (ap (λ qs. qs ++ line ∷ []) no_plain ∙ ap (λ qs. line ∷ qs) (sym no_plain))))
    (plain_line equal plain multi line (plain ++ line ∷ []) multi equal ps ms (ComparesNext.waits no_multi) has)

-- ---- what is found

pub at_now : (equal : ℕ) (plain multi ps ms : List (List ℕ)) → Compares equal plain multi ps ms → compared 0 ps ms ≡ compared equal plain multi
at_now equal plain multi ps ms has =
    sym (ap (λ qs. compared 0 qs (ms ++ [])) (append-nil ps) ∙ ap (compared 0 ps) (append-nil ms)) ∙ has.goes [] []
    ∙ ap (λ qs. compared equal qs (multi ++ [])) (append-nil plain) ∙ ap (compared equal plain) (append-nil multi)

-- ---- a line comes to a list

no_lines : (xs : List (List ℕ)) → length xs ≡ 0 → xs ≡ []
no_lines [] none = refl
no_lines (x ∷ xs) none = absurd (omega arith)

pub meets_none : (own other longer : List (List ℕ)) (equal : ℕ) (line : List ℕ) → length other ≡ 0 → longer ≡ own ++ line ∷ [] → ComparesNext own other equal line longer other equal
meets_none own other longer equal line none added = subst (λ ls. ComparesNext own other equal line ls other equal) (sym added) (ComparesNext.waits (no_lines other none))

pub meets_same : (own other rest : List (List ℕ)) (equal more : ℕ) (next line : List ℕ) → length own ≡ 0 → other ≡ next ∷ rest → next ≡ line → more ≡ equal + 1 → ComparesNext own other equal line own rest more
meets_same own other rest equal more next line none is same counted =
    subst (λ n. ComparesNext own other equal line own rest n) (sym counted) (ComparesNext.agrees rest (no_lines own none) (is ∙ ap (λ l. l ∷ rest) same))

pub meets_other : (own other longer kept : List (List ℕ)) (equal : ℕ) (next line : List ℕ) → length own ≡ 0 → 0 < length other → next ≡ slice_index_or other 0 next → next ≢ line → longer ≡ own ++ line ∷ [] → kept ≡ take 1 other
    → ComparesNext own other equal line longer kept equal
meets_other own [] longer kept equal next line none some is differ added cut = absurd (omega arith)
meets_other own (x ∷ xs) longer kept equal next line none some is differ added cut =
    subst (λ ls. ComparesNext own (x ∷ xs) equal line ls kept equal) (sym (added ∙ ap (λ os. os ++ line ∷ []) (no_lines own none)))
    (subst (λ ks. ComparesNext own (x ∷ xs) equal line (line ∷ []) ks equal) (sym cut) (ComparesNext.parts x xs (no_lines own none) refl (λ e. differ (is ∙ e))))

pub meets_apart : (own other : List (List ℕ)) (equal : ℕ) (line : List ℕ) → 0 < length own → 0 < length other → ComparesNext own other equal line own other equal
meets_apart own other equal line some more = ComparesNext.apart some more

pub popped : (other rest : List (List ℕ)) (next : List ℕ) → 0 < length other → next ≡ slice_index_or other 0 next → rest ≡ drop 1 other → other ≡ next ∷ rest
popped [] rest next some is more = absurd (omega arith)
popped (x ∷ xs) rest next some is more = ap (λ y. y ∷ xs) (sym is) ∙ ap (λ ys. next ∷ ys) (sym more)

one : (n : ℕ) → n + 1 ≡ suc n
one n = omega arith

-- ---- what is found

verdict_of : (equal : ℕ) (p m : Option (List ℕ)) (plain multi : List (List ℕ)) → ArePart plain multi → p ≡ first plain → m ≡ first multi → compared equal plain multi ≡ found equal p m
verdict_of equal p m [] [] part p_is m_is = sym (ap (found equal p) m_is ∙ ap (λ q. found equal q None) p_is)
verdict_of equal p m (x ∷ xs) [] part p_is m_is = sym (ap (found equal p) m_is ∙ ap (λ q. found equal q None) p_is)
verdict_of equal p m [] (y ∷ ys) part p_is m_is = sym (ap (found equal p) m_is ∙ ap (λ q. found equal q (Some y)) p_is)
verdict_of equal p m (x ∷ xs) (y ∷ ys) part p_is m_is =
    ap (λ b. cond b (compared (suc equal) xs ys) (Differs (suc equal) (Some x) (Some y))) part ∙ sym (ap (found equal p) m_is ∙ ap (λ q. found equal q (Some y)) p_is)

-- by the next lines
pub found_is : (equal : ℕ) (p m : Option (List ℕ)) (plain multi : List (List ℕ)) → p ≡ first plain → m ≡ first multi → (ps ms : List (List ℕ)) → Compares equal plain multi ps ms → found equal p m ≡ compared 0 ps ms
found_is equal p m plain multi p_is m_is ps ms has = sym (at_now equal plain multi ps ms has ∙ verdict_of equal p m plain multi has.part p_is m_is)

pub first_none : (xs : List (List ℕ)) → length xs ≡ 0 → None ≡ first xs
first_none [] none = refl
first_none (x ∷ xs) none = absurd (omega arith)

pub first_some : (xs : List (List ℕ)) (x : List ℕ) → 0 < length xs → x ≡ slice_index_or xs 0 x → Some x ≡ first xs
first_some [] x some is = absurd (omega arith)
first_some (y ∷ ys) x some is = ap (λ z. Some z) is

pub found_more : (equal place : ℕ) (p m : Option (List ℕ)) → ¬ ((p ≡ None) × (m ≡ None)) → place ≡ equal + 1 → Differs place p m ≡ found equal p m
found_more equal place None None some counted = absurd (some (refl, refl))
found_more equal place (Some x) None some counted = ap (λ n. Differs n (Some x) None) (counted ∙ one equal)
found_more equal place None (Some y) some counted = ap (λ n. Differs n None (Some y)) (counted ∙ one equal)
found_more equal place (Some x) (Some y) some counted = ap (λ n. Differs n (Some x) (Some y)) (counted ∙ one equal)

-- they differ where either has more
differs_found : (equal : ℕ) (plain multi ps ms : List (List ℕ)) → Compares equal plain multi ps ms → differs (found equal (first plain) (first multi)) ≡ differs (compared 0 ps ms)
differs_found equal plain multi ps ms has = ap differs (found_is equal (first plain) (first multi) plain multi refl refl ps ms has)

pub differs_plain : (equal : ℕ) (plain multi : List (List ℕ)) → 0 < length plain → (ps ms : List (List ℕ)) → Compares equal plain multi ps ms → true ≡ differs (compared 0 ps ms)
differs_plain equal [] multi some ps ms has = absurd (omega arith)
differs_plain equal (p ∷ plain) multi some ps ms has = differs_found equal (p ∷ plain) multi ps ms has

pub differs_multi : (equal : ℕ) (plain multi : List (List ℕ)) (none : Bool) → length plain ≡ 0 → none ≡ (length multi == 0) → (ps ms : List (List ℕ)) → Compares equal plain multi ps ms → not none ≡ differs (compared 0 ps ms)
differs_multi equal [] [] none same is ps ms has = ap not is ∙ differs_found equal [] [] ps ms has
differs_multi equal [] (m ∷ multi) none same is ps ms has = ap not (is ∙ ne_eqb (length (m ∷ multi)) 0 (λ e. omega arith)) ∙ differs_found equal [] (m ∷ multi) ps ms has
differs_multi equal (p ∷ plain) multi none same is ps ms has = absurd (omega arith)
