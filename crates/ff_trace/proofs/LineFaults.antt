-- What a line is refused for is its first fault.
use Rattle.std.proofs.Common.{◌≡◌, ◌≢◌, ℕ, List, [], ◌∷◌, length, Option, Some, None, Result, Ok, Err, refl, sym, ap, subst, ◌∙◌, arith}
use Rattle.ff_lattice.specs.Order.{Order, level_named}
use Rattle.ff_name.specs.declared.levels.Level.{Level}
use Rattle.ff_text.specs.declared.items.Sexp.{Sexp}
use Rattle.ff_value.specs.declared.input.Act.{Act}
use Rattle.ff_value.specs.declared.input.Act.TheVariants as act
use Rattle.ff_value.specs.declared.input.Input.{Input}
use Rattle.ff_value.specs.declared.kind.Kind.{Kind}
use Rattle.ff_value.specs.declared.kind.Kind.TheVariants as kind
use Rattle.ff_trace.specs.declared.fault.LineFault.{LineFault}
use Rattle.ff_trace.specs.declared.fault.LineFault.TheVariants as fault
use Rattle.ff_trace.specs.Faults.{Sort, a_number, an_address, a_domain, a_string, a_response, sorts_of, fault_in, fault_of, IsFirstBad, here, later, ArePartsAtFault, wrong_count, wrong_part, IsActFault, nothing, no_kind, bad_parts, IsItemsFault, empty, no_level, untagged, IsLineFault, no_items, bad_items}
use Rattle.ff_trace.specs.Faults as line
use Rattle.ff_trace.specs.Lines.{of_one, of_two, of_three, act_of, act_or_kind, kind_of, act_in, tag_of, with_tag, tagged, by_tag, input_in, ReadsLine, silent, bad_text, as_items}
use Rattle.ff_trace.specs.Parts.{number_in, address_in, domain_in, string_in, response_in}

fault_or : {A : Type 0} → LineFault → Result A LineFault → LineFault
fault_or which (Ok value) = which
fault_or which (Err other) = other

err_same : {A : Type 0} (one other : LineFault) → ◌≡◌ {A = Result A LineFault} (Err one) (Err other) → one ≡ other
unfolding fault_or
err_same {A} one other e = ap (fault_or {A = A} one) e

ok_no_err : {A : Type 0} (value : A) (which : LineFault) → ◌≡◌ {A = Result A LineFault} (Ok value) (Err which) → ⊥
ok_no_err value which e = cc

-- ---- answers and their faults

is_err : {A : Type 0} (r : Result A LineFault) (which : LineFault) → fault_in r ≡ Some which → r ≡ Err which
is_err (Ok value) which e = absurd (let no : ◌≡◌ {A = Option LineFault} None (Some which) = e in cc)
is_err (Err other) which e = let same : other ≡ which = cc in ap Err same

AnOk : {A : Type 0} → Result A LineFault → Type 0
AnOk {A} r = (value : A) × (r ≡ Ok value)

is_ok : {A : Type 0} (r : Result A LineFault) → fault_in r ≡ None → AnOk r
unfolding AnOk
is_ok (Ok value) e = (value, refl)
is_ok (Err other) e = absurd (let no : ◌≡◌ {A = Option LineFault} (Some other) None = e in cc)

-- ---- parts that are read from left to right

one_bad : {A : Type 0} (make : A → Act) (r : Result A LineFault) (s : Sort) (i : Sexp) (which : LineFault) → fault_of s i ≡ fault_in r → of_one make r ≡ Err which → IsFirstBad (s ∷ []) (i ∷ []) which
one_bad make (Ok a) s i which f e = absurd (ok_no_err (make a) which e)
one_bad make (Err other) s i which f e = here s [] i [] which (f ∙ ap Some (err_same {A = Act} other which e))

two_bad : {A B : Type 0} (make : A → B → Act) (r : Result A LineFault) (r' : Result B LineFault) (s s' : Sort) (i i' : Sexp) (which : LineFault) → fault_of s i ≡ fault_in r → fault_of s' i' ≡ fault_in r'
    → of_two make r r' ≡ Err which → IsFirstBad (s ∷ s' ∷ []) (i ∷ i' ∷ []) which
two_bad make (Ok a) r' s s' i i' which f f' e = later s (s' ∷ []) i (i' ∷ []) which f (one_bad (make a) r' s' i' which f' e)
two_bad make (Err other) r' s s' i i' which f f' e = here s (s' ∷ []) i (i' ∷ []) which (f ∙ ap Some (err_same {A = Act} other which e))

three_bad : {A B C : Type 0} (make : A → B → C → Act) (r : Result A LineFault) (r' : Result B LineFault) (r'' : Result C LineFault) (s s' s'' : Sort) (i i' i'' : Sexp) (which : LineFault)
    → fault_of s i ≡ fault_in r → fault_of s' i' ≡ fault_in r' → fault_of s'' i'' ≡ fault_in r'' → of_three make r r' r'' ≡ Err which → IsFirstBad (s ∷ s' ∷ s'' ∷ []) (i ∷ i' ∷ i'' ∷ []) which
three_bad make (Ok a) r' r'' s s' s'' i i' i'' which f f' f'' e = later s (s' ∷ s'' ∷ []) i (i' ∷ i'' ∷ []) which f (two_bad (make a) r' r'' s' s'' i' i'' which f' f'' e)
three_bad make (Err other) r' r'' s s' s'' i i' i'' which f f' f'' e = here s (s' ∷ s'' ∷ []) i (i' ∷ i'' ∷ []) which (f ∙ ap Some (err_same {A = Act} other which e))

bad_one : {A : Type 0} (make : A → Act) (r : Result A LineFault) (s : Sort) (i : Sexp) (which : LineFault) → fault_of s i ≡ fault_in r → IsFirstBad (s ∷ []) (i ∷ []) which → of_one make r ≡ Err which
bad_one make r s i which f (here _ _ _ _ _ e) = ap (of_one make) (is_err r which (sym f ∙ e))
bad_one make r s i which f (later _ _ _ _ _ e rest) = elim rest [ ]

bad_two : {A B : Type 0} (make : A → B → Act) (r : Result A LineFault) (r' : Result B LineFault) (s s' : Sort) (i i' : Sexp) (which : LineFault) → fault_of s i ≡ fault_in r → fault_of s' i' ≡ fault_in r'
    → IsFirstBad (s ∷ s' ∷ []) (i ∷ i' ∷ []) which → of_two make r r' ≡ Err which
unfolding AnOk
bad_two make r r' s s' i i' which f f' (here _ _ _ _ _ e) = ap (λ x. of_two make x r') (is_err r which (sym f ∙ e))
bad_two make r r' s s' i i' which f f' (later _ _ _ _ _ e rest) = let ok = is_ok r (sym f ∙ e) in ap (λ x. of_two make x r') ok.1 ∙ bad_one (make ok.0) r' s' i' which f' rest

bad_three : {A B C : Type 0} (make : A → B → C → Act) (r : Result A LineFault) (r' : Result B LineFault) (r'' : Result C LineFault) (s s' s'' : Sort) (i i' i'' : Sexp) (which : LineFault)
    → fault_of s i ≡ fault_in r → fault_of s' i' ≡ fault_in r' → fault_of s'' i'' ≡ fault_in r'' → IsFirstBad (s ∷ s' ∷ s'' ∷ []) (i ∷ i' ∷ i'' ∷ []) which → of_three make r r' r'' ≡ Err which
unfolding AnOk
bad_three make r r' r'' s s' s'' i i' i'' which f f' f'' (here _ _ _ _ _ e) = ap (λ x. of_three make x r' r'') (is_err r which (sym f ∙ e))
bad_three make r r' r'' s s' s'' i i' i'' which f f' f'' (later _ _ _ _ _ e rest) =
    let ok = is_ok r (sym f ∙ e) in ap (λ x. of_three make x r' r'') ok.1 ∙ bad_two (make ok.0) r' r'' s' s'' i' i'' which f' f'' rest

-- ---- the parts of a kind

miscounted : (k : Kind) (parts : List Sexp) (which : LineFault) → length parts ≢ length (sorts_of k) → ◌≡◌ {A = Result Act LineFault} (Err fault.Count) (Err which) → ArePartsAtFault k parts which
miscounted k parts which other e = subst (ArePartsAtFault k parts) (err_same {A = Act} fault.Count which e) (wrong_count other)

parts_fault : (k : Kind) (parts : List Sexp) (which : LineFault) → act_of k parts ≡ Err which → ArePartsAtFault k parts which
parts_fault kind.Open [] which e = miscounted kind.Open [] which (λ same. absurd (omega (arith, same))) e
parts_fault kind.Open (a ∷ []) which e = wrong_part which refl (one_bad act.Opens (address_in a) an_address a which refl e)
parts_fault kind.Open (a ∷ d ∷ rest) which e = miscounted kind.Open (a ∷ d ∷ rest) which (λ same. absurd (omega (arith, same))) e
parts_fault kind.Go [] which e = miscounted kind.Go [] which (λ same. absurd (omega (arith, same))) e
parts_fault kind.Go (a ∷ []) which e = miscounted kind.Go (a ∷ []) which (λ same. absurd (omega (arith, same))) e
parts_fault kind.Go (a ∷ b ∷ []) which e = wrong_part which refl (two_bad act.Goes (number_in a) (address_in b) a_number an_address a b which refl refl e)
parts_fault kind.Go (a ∷ b ∷ d ∷ rest) which e = miscounted kind.Go (a ∷ b ∷ d ∷ rest) which (λ same. absurd (omega (arith, same))) e
parts_fault kind.Link [] which e = miscounted kind.Link [] which (λ same. absurd (omega (arith, same))) e
parts_fault kind.Link (a ∷ []) which e = miscounted kind.Link (a ∷ []) which (λ same. absurd (omega (arith, same))) e
parts_fault kind.Link (a ∷ b ∷ []) which e = wrong_part which refl (two_bad act.Links (number_in a) (number_in b) a_number a_number a b which refl refl e)
parts_fault kind.Link (a ∷ b ∷ d ∷ rest) which e = miscounted kind.Link (a ∷ b ∷ d ∷ rest) which (λ same. absurd (omega (arith, same))) e
parts_fault kind.Close [] which e = miscounted kind.Close [] which (λ same. absurd (omega (arith, same))) e
parts_fault kind.Close (a ∷ []) which e = wrong_part which refl (one_bad act.Closes (number_in a) a_number a which refl e)
parts_fault kind.Close (a ∷ d ∷ rest) which e = miscounted kind.Close (a ∷ d ∷ rest) which (λ same. absurd (omega (arith, same))) e
parts_fault kind.Type [] which e = miscounted kind.Type [] which (λ same. absurd (omega (arith, same))) e
parts_fault kind.Type (a ∷ []) which e = miscounted kind.Type (a ∷ []) which (λ same. absurd (omega (arith, same))) e
parts_fault kind.Type (a ∷ b ∷ []) which e = miscounted kind.Type (a ∷ b ∷ []) which (λ same. absurd (omega (arith, same))) e
parts_fault kind.Type (a ∷ b ∷ c ∷ []) which e = wrong_part which refl (three_bad act.Types (number_in a) (number_in b) (string_in c) a_number a_number a_string a b c which refl refl refl e)
parts_fault kind.Type (a ∷ b ∷ c ∷ d ∷ rest) which e = miscounted kind.Type (a ∷ b ∷ c ∷ d ∷ rest) which (λ same. absurd (omega (arith, same))) e
parts_fault kind.Click [] which e = miscounted kind.Click [] which (λ same. absurd (omega (arith, same))) e
parts_fault kind.Click (a ∷ []) which e = miscounted kind.Click (a ∷ []) which (λ same. absurd (omega (arith, same))) e
parts_fault kind.Click (a ∷ b ∷ []) which e = wrong_part which refl (two_bad act.Clicks (number_in a) (number_in b) a_number a_number a b which refl refl e)
parts_fault kind.Click (a ∷ b ∷ d ∷ rest) which e = miscounted kind.Click (a ∷ b ∷ d ∷ rest) which (λ same. absurd (omega (arith, same))) e
parts_fault kind.Reply [] which e = miscounted kind.Reply [] which (λ same. absurd (omega (arith, same))) e
parts_fault kind.Reply (a ∷ []) which e = miscounted kind.Reply (a ∷ []) which (λ same. absurd (omega (arith, same))) e
parts_fault kind.Reply (a ∷ b ∷ []) which e = miscounted kind.Reply (a ∷ b ∷ []) which (λ same. absurd (omega (arith, same))) e
parts_fault kind.Reply (a ∷ b ∷ c ∷ []) which e = wrong_part which refl (three_bad act.Replies (domain_in a) (number_in b) (response_in c) a_domain a_number a_response a b c which refl refl refl e)
parts_fault kind.Reply (a ∷ b ∷ c ∷ d ∷ rest) which e = miscounted kind.Reply (a ∷ b ∷ c ∷ d ∷ rest) which (λ same. absurd (omega (arith, same))) e

fault_parts : (k : Kind) (parts : List Sexp) (which : LineFault) → ArePartsAtFault k parts which → act_of k parts ≡ Err which
fault_parts kind.Open [] _ (wrong_count other) = refl
fault_parts kind.Open [] which (wrong_part _ same bad) = absurd (omega (arith, same))
fault_parts kind.Open (a ∷ []) _ (wrong_count other) = absurd (other refl)
fault_parts kind.Open (a ∷ []) which (wrong_part _ same bad) = bad_one act.Opens (address_in a) an_address a which refl bad
fault_parts kind.Open (a ∷ d ∷ rest) _ (wrong_count other) = refl
fault_parts kind.Open (a ∷ d ∷ rest) which (wrong_part _ same bad) = absurd (omega (arith, same))
fault_parts kind.Go [] _ (wrong_count other) = refl
fault_parts kind.Go [] which (wrong_part _ same bad) = absurd (omega (arith, same))
fault_parts kind.Go (a ∷ []) _ (wrong_count other) = refl
fault_parts kind.Go (a ∷ []) which (wrong_part _ same bad) = absurd (omega (arith, same))
fault_parts kind.Go (a ∷ b ∷ []) _ (wrong_count other) = absurd (other refl)
fault_parts kind.Go (a ∷ b ∷ []) which (wrong_part _ same bad) = bad_two act.Goes (number_in a) (address_in b) a_number an_address a b which refl refl bad
fault_parts kind.Go (a ∷ b ∷ d ∷ rest) _ (wrong_count other) = refl
fault_parts kind.Go (a ∷ b ∷ d ∷ rest) which (wrong_part _ same bad) = absurd (omega (arith, same))
fault_parts kind.Link [] _ (wrong_count other) = refl
fault_parts kind.Link [] which (wrong_part _ same bad) = absurd (omega (arith, same))
fault_parts kind.Link (a ∷ []) _ (wrong_count other) = refl
fault_parts kind.Link (a ∷ []) which (wrong_part _ same bad) = absurd (omega (arith, same))
fault_parts kind.Link (a ∷ b ∷ []) _ (wrong_count other) = absurd (other refl)
fault_parts kind.Link (a ∷ b ∷ []) which (wrong_part _ same bad) = bad_two act.Links (number_in a) (number_in b) a_number a_number a b which refl refl bad
fault_parts kind.Link (a ∷ b ∷ d ∷ rest) _ (wrong_count other) = refl
fault_parts kind.Link (a ∷ b ∷ d ∷ rest) which (wrong_part _ same bad) = absurd (omega (arith, same))
fault_parts kind.Close [] _ (wrong_count other) = refl
fault_parts kind.Close [] which (wrong_part _ same bad) = absurd (omega (arith, same))
fault_parts kind.Close (a ∷ []) _ (wrong_count other) = absurd (other refl)
fault_parts kind.Close (a ∷ []) which (wrong_part _ same bad) = bad_one act.Closes (number_in a) a_number a which refl bad
fault_parts kind.Close (a ∷ d ∷ rest) _ (wrong_count other) = refl
fault_parts kind.Close (a ∷ d ∷ rest) which (wrong_part _ same bad) = absurd (omega (arith, same))
fault_parts kind.Type [] _ (wrong_count other) = refl
fault_parts kind.Type [] which (wrong_part _ same bad) = absurd (omega (arith, same))
fault_parts kind.Type (a ∷ []) _ (wrong_count other) = refl
fault_parts kind.Type (a ∷ []) which (wrong_part _ same bad) = absurd (omega (arith, same))
fault_parts kind.Type (a ∷ b ∷ []) _ (wrong_count other) = refl
fault_parts kind.Type (a ∷ b ∷ []) which (wrong_part _ same bad) = absurd (omega (arith, same))
fault_parts kind.Type (a ∷ b ∷ c ∷ []) _ (wrong_count other) = absurd (other refl)
fault_parts kind.Type (a ∷ b ∷ c ∷ []) which (wrong_part _ same bad) = bad_three act.Types (number_in a) (number_in b) (string_in c) a_number a_number a_string a b c which refl refl refl bad
fault_parts kind.Type (a ∷ b ∷ c ∷ d ∷ rest) _ (wrong_count other) = refl
fault_parts kind.Type (a ∷ b ∷ c ∷ d ∷ rest) which (wrong_part _ same bad) = absurd (omega (arith, same))
fault_parts kind.Click [] _ (wrong_count other) = refl
fault_parts kind.Click [] which (wrong_part _ same bad) = absurd (omega (arith, same))
fault_parts kind.Click (a ∷ []) _ (wrong_count other) = refl
fault_parts kind.Click (a ∷ []) which (wrong_part _ same bad) = absurd (omega (arith, same))
fault_parts kind.Click (a ∷ b ∷ []) _ (wrong_count other) = absurd (other refl)
fault_parts kind.Click (a ∷ b ∷ []) which (wrong_part _ same bad) = bad_two act.Clicks (number_in a) (number_in b) a_number a_number a b which refl refl bad
fault_parts kind.Click (a ∷ b ∷ d ∷ rest) _ (wrong_count other) = refl
fault_parts kind.Click (a ∷ b ∷ d ∷ rest) which (wrong_part _ same bad) = absurd (omega (arith, same))
fault_parts kind.Reply [] _ (wrong_count other) = refl
fault_parts kind.Reply [] which (wrong_part _ same bad) = absurd (omega (arith, same))
fault_parts kind.Reply (a ∷ []) _ (wrong_count other) = refl
fault_parts kind.Reply (a ∷ []) which (wrong_part _ same bad) = absurd (omega (arith, same))
fault_parts kind.Reply (a ∷ b ∷ []) _ (wrong_count other) = refl
fault_parts kind.Reply (a ∷ b ∷ []) which (wrong_part _ same bad) = absurd (omega (arith, same))
fault_parts kind.Reply (a ∷ b ∷ c ∷ []) _ (wrong_count other) = absurd (other refl)
fault_parts kind.Reply (a ∷ b ∷ c ∷ []) which (wrong_part _ same bad) = bad_three act.Replies (domain_in a) (number_in b) (response_in c) a_domain a_number a_response a b c which refl refl refl bad
fault_parts kind.Reply (a ∷ b ∷ c ∷ d ∷ rest) _ (wrong_count other) = refl
fault_parts kind.Reply (a ∷ b ∷ c ∷ d ∷ rest) which (wrong_part _ same bad) = absurd (omega (arith, same))

-- ---- an act

act_fault : (items : List Sexp) (which : LineFault) → act_in items ≡ Err which → IsActFault items which
act_fault [] which e = subst (IsActFault []) (err_same {A = Act} fault.Kind which e) nothing
act_fault (first ∷ parts) which e = go (kind_of first) refl e
  where
    go : (found : Option Kind) → kind_of first ≡ found → act_or_kind found parts ≡ Err which → IsActFault (first ∷ parts) which
    go None is e = subst (IsActFault (first ∷ parts)) (err_same {A = Act} fault.Kind which e) (no_kind first parts is)
    go (Some k) is e = bad_parts first parts k which is (parts_fault k parts which e)

fault_act : (items : List Sexp) (which : LineFault) → IsActFault items which → act_in items ≡ Err which
fault_act _ _ nothing = refl
fault_act _ _ (no_kind first parts is) = ap (λ (found : Option Kind). act_or_kind found parts) is
fault_act _ _ (bad_parts first parts k which is bad) = ap (λ (found : Option Kind). act_or_kind found parts) is ∙ fault_parts k parts which bad

-- ---- the items

untag : (tag : Option Level) (r : Result Act LineFault) (which : LineFault) → with_tag tag r ≡ Err which → r ≡ Err which
untag tag (Ok one) which e = absurd (ok_no_err (Some (record { tag = tag; act = one })) which e)
untag tag (Err other) which e = ap Err (err_same {A = Option Input} other which e)

items_fault : (order : Order) (items : List Sexp) (which : LineFault) → input_in order items ≡ Err which → IsItemsFault order items which
items_fault order [] which e = subst (IsItemsFault order []) (err_same {A = Option Input} fault.Kind which e) empty
items_fault order (first ∷ rest) which e = by_first (tag_of first) refl e
  where
    by_level : (name : List ℕ) → tag_of first ≡ Some name → (found : Option Level) → level_named order name ≡ found → tagged found rest ≡ Err which → IsItemsFault order (first ∷ rest) which
    by_level name is None found e = subst (IsItemsFault order (first ∷ rest)) (err_same {A = Option Input} fault.Level which e) (no_level first rest name is found)
    by_level name is (Some level) found e = line.tagged first rest name level which is found (act_fault rest which (untag (Some level) (act_in rest) which e))

    by_first : (tag : Option (List ℕ)) → tag_of first ≡ tag → by_tag order tag first rest ≡ Err which → IsItemsFault order (first ∷ rest) which
    by_first None is e = untagged first rest which is (act_fault (first ∷ rest) which (untag None (act_in (first ∷ rest)) which e))
    by_first (Some name) is e = by_level name is (level_named order name) refl e

fault_items : (order : Order) (items : List Sexp) (which : LineFault) → IsItemsFault order items which → input_in order items ≡ Err which
fault_items order _ _ empty = refl
fault_items order _ _ (no_level first rest name is found) = ap (λ (tag : Option (List ℕ)). by_tag order tag first rest) is ∙ ap (λ (l : Option Level). tagged l rest) found
fault_items order _ _ (untagged first rest which is bad) = ap (λ (tag : Option (List ℕ)). by_tag order tag first rest) is ∙ ap (with_tag None) (fault_act (first ∷ rest) which bad)
fault_items order _ _ (line.tagged first rest name level which is found bad) =
    ap (λ (tag : Option (List ℕ)). by_tag order tag first rest) is ∙ ap (λ (l : Option Level). tagged l rest) found ∙ ap (with_tag (Some level)) (fault_act rest which bad)

-- ---- the line

pub line_fault : (order : Order) (text : List ℕ) (which : LineFault) → ReadsLine order text (Err which) → IsLineFault order text which
line_fault order text which reads = go (Err which) reads refl
  where
    go : (answer : Result (Option Input) LineFault) → ReadsLine order text answer → answer ≡ Err which → IsLineFault order text which
    go _ (silent quiet) e = absurd (ok_no_err None which e)
    go _ (bad_text at loud first) e = subst (IsLineFault order text) (err_same {A = Option Input} (fault.Text at) which e) (no_items at loud first)
    go _ (as_items items answer loud spells is) e = bad_items items which loud spells (items_fault order items which (sym is ∙ e))

pub fault_line : (order : Order) (text : List ℕ) (which : LineFault) → IsLineFault order text which → ReadsLine order text (Err which)
fault_line order text _ (no_items at loud first) = bad_text at loud first
fault_line order text which (bad_items items _ loud spells bad) = as_items items (Err which) loud spells (sym (fault_items order items which bad))
