-- Each line gives something, and an input that a line gives is one that lines spell.
use Rattle.std.proofs.Common.{◌≡◌, ℕ, Bool, true, false, List, [], ◌∷◌, map, Option, Some, None, Result, Ok, Err, refl, sym, ap, subst, ◌∙◌, arith}
use Rattle.std.specs.Str.{IsUtf8}
use Rattle.std.specs.List.{list_all}
use Rattle.std.proofs.lemmas.Bool.{and_parts}
use Rattle.std.proofs.lemmas.Option.{none-some, same_Some}
use Rattle.std.proofs.lemmas.Str.{IsUtf8-from_is_utf8}
use Rattle.ff_lattice.specs.Order.{Order, level_named, IsTag}
use Rattle.ff_lattice.proofs.Named.{level_within}
use Rattle.ff_name.specs.declared.levels.Level.{Level}
use Rattle.ff_name.specs.declared.urls.Url.{Url}
use Rattle.ff_name.specs.Address.{IsWellSpelled as IsAddress, Spells, as_printed, with_no_request}
use Rattle.ff_name.specs.Reading.{read_url}
use Rattle.ff_name.specs.Spelling.{IsDomain}
use Rattle.ff_text.specs.declared.items.Sexp.{Sexp, out-Sexp}
use Rattle.ff_text.specs.declared.items.Sexp.TheVariants as sexp
use Rattle.ff_text.specs.declared.items.Sexp.TheOpen.{Sexp-F}
use Rattle.ff_text.specs.declared.items.TextFault.{TextFault}
use Rattle.ff_text.specs.Machine.{verdict}
use Rattle.ff_text.specs.Printed.{IsWellSpelled, AreWellSpelled, fits_at}
use Rattle.ff_text.proofs.Layers.{fits_at-Str, items_ind}
use Rattle.ff_text.proofs.Spelled.{well_spelled_items}
use Rattle.ff_text.proofs.Verdict.{spelled_from_verdict, fault_from_verdict}
use Rattle.ff_forms.specs.Grammar.{resp_in}
use Rattle.ff_forms.specs.declared.fault.SyntaxFault.{SyntaxFault}
use Rattle.ff_reading.proofs.Sounds.{spelled_resp}
use Rattle.ff_reading.proofs.Wells.{well_resp}
use Rattle.ff_value.specs.Spelled.{IsNat, IsWellSpelledAct, IsWellSpelledResp}
use Rattle.ff_value.specs.declared.input.Act.{Act}
use Rattle.ff_value.specs.declared.input.Act.TheVariants as act
use Rattle.ff_value.specs.declared.input.Input.{Input}
use Rattle.ff_value.specs.declared.kind.Kind.{Kind}
use Rattle.ff_value.specs.declared.kind.Kind.TheVariants as kind
use Rattle.ff_value.specs.declared.reply.Resp.{Resp}
use Rattle.ff_trace.specs.declared.fault.LineFault.{LineFault}
use Rattle.ff_trace.specs.declared.fault.LineFault.TheVariants as fault
use Rattle.ff_trace.specs.Parts.{by_word, by_string, or_fault, or_syntax, number_in, address_in, domain_in, string_in, response_in, number_of, domain_of}
use Rattle.ff_trace.specs.Lines.{of_one, of_two, of_three, act_of, act_or_kind, kind_of, act_in, tag_of, with_tag, tagged, by_tag, input_in, is_silent, ReadsLine, silent, bad_text, as_items, IsInputOf}
use Rattle.ff_trace.proofs.Numbers.{number_exactly}
use Rattle.ff_trace.proofs.Spelt.{address_exactly, domain_exactly}

-- ---- each line gives something

pub reads_some : (order : Order) (line : List ℕ) → (answer : Result (Option Input) LineFault) × ReadsLine order line answer
reads_some order line = from (is_silent line) refl (verdict line) refl
  where
    from : (quiet : Bool) → is_silent line ≡ quiet → (read : Result (List Sexp) TextFault) → verdict line ≡ read → (answer : Result (Option Input) LineFault) × ReadsLine order line answer
    from true quiet read is = (Ok None, silent quiet)
    from false loud (Ok items) is = (input_in order items, as_items items (input_in order items) loud (spelled_from_verdict line items is) refl)
    from false loud (Err which) is = (Err (fault.Text which), bad_text which loud (fault_from_verdict line which is))

-- ---- what was read

value_of : {A : Type 0} → Result A LineFault → Option A
value_of (Ok a) = Some a
value_of (Err which) = None

-- a refusal is no value
refused : {A X : Type 0} (which : LineFault) (a : A) → ◌≡◌ {A = Result A LineFault} (Err which) (Ok a) → X
unfolding value_of
refused {A} which a e = absurd (none-some a (ap (value_of {A = A}) e))

same : {A : Type 0} (a b : A) → ◌≡◌ {A = Result A LineFault} (Ok a) (Ok b) → a ≡ b
unfolding value_of
same {A} a b e = same_Some a b (ap (value_of {A = A}) e)

or_fault_from : {A : Type 0} (which : LineFault) (read : Option A) (a : A) → or_fault which read ≡ Ok a → read ≡ Some a
or_fault_from which None a e = refused which a e
or_fault_from which (Some b) a e = ap Some (same b a e)

-- a word that was read
by_word_from : {A : Type 0} (which : LineFault) (read : List ℕ → Option A) (item : Sexp-F Sexp) (a : A) → by_word which read item ≡ Ok a → (text : List ℕ) × (read text ≡ Some a)
by_word_from which read (Sexp-F.Word at text) a e = (text, or_fault_from which (read text) a e)
by_word_from which read (Sexp-F.Str at value) a e = refused which a e
by_word_from which read (Sexp-F.List at parts) a e = refused which a e

-- ---- parts

number_well : (item : Sexp) (n : ℕ) → number_in item ≡ Ok n → IsNat n
number_well item n e = let word = by_word_from fault.Number number_of (out-Sexp item) n e in ((number_exactly word.0 n).0 word.1).0

address_spelled : (text : List ℕ) (url : Url) → Spells text url → IsAddress url
address_spelled _ _ (as_printed url well) = well
address_spelled _ _ (with_no_request domain is) = (is, record { begins = refl; made_of = refl; short = omega arith })

address_well : (item : Sexp) (url : Url) → address_in item ≡ Ok url → IsAddress url
address_well item url e = let word = by_word_from fault.Url read_url (out-Sexp item) url e in address_spelled word.0 url ((address_exactly word.0 url).0 word.1)

domain_well : (item : Sexp) (domain : List ℕ) → domain_in item ≡ Ok domain → IsDomain domain
domain_well item domain e =
    let word = by_word_from fault.Url domain_of (out-Sexp item) domain e in
    let is = (domain_exactly word.0 domain).0 word.1 in
    subst IsDomain (sym is.1) is.0

string_well : (text : List ℕ) (item : Sexp) → string_in item ≡ Ok text → IsWellSpelled item → IsUtf8 text
string_well text =
    items_ind (λ item. string_in item ≡ Ok text → IsWellSpelled item → IsUtf8 text)
    (λ at word e well. refused _ text (sym (ap by_string (sexp.outs-Word at word)) ∙ e))
    (λ at value e well. subst IsUtf8 (same value text (sym (ap by_string (sexp.outs-Str at value)) ∙ e)) (IsUtf8-from_is_utf8 value (sym (ap (λ (f : ℕ → Bool). f 0) (fits_at-Str at value)) ∙ well)))
    (λ at parts each e well. refused _ text (sym (ap by_string (sexp.outs-List at parts)) ∙ e))

response_well : (item : Sexp) (resp : Resp) → response_in item ≡ Ok resp → IsWellSpelled item → IsWellSpelledResp resp
response_well item resp e well = from (resp_in item) refl e
  where
    from : (read : Result Resp SyntaxFault) → resp_in item ≡ read → or_syntax read ≡ Ok resp → IsWellSpelledResp resp
    from (Ok found) is e = well_resp item resp (spelled_resp item resp (is ∙ ap Ok (same found resp e))) well
    from (Err which) is e = refused (fault.Syntax which) resp e

-- ---- acts

module _ {A : Type 0} (P : A → Type 0) (first : Result A LineFault) (first_well : (a : A) → first ≡ Ok a → P a) where
  well_one : (make : A → Act) → ((a : A) → P a → IsWellSpelledAct (make a)) → (one : Act) → of_one make first ≡ Ok one → IsWellSpelledAct one
  well_one make well one e = from first refl e
    where
      from : (r : Result A LineFault) → first ≡ r → of_one make r ≡ Ok one → IsWellSpelledAct one
      from (Ok a) is e = subst IsWellSpelledAct (same (make a) one e) (well a (first_well a is))
      from (Err which) is e = refused which one e

  module _ {B : Type 0} (Q : B → Type 0) (second : Result B LineFault) (second_well : (b : B) → second ≡ Ok b → Q b) where
    well_two : (make : A → B → Act) → ((a : A) (b : B) → P a → Q b → IsWellSpelledAct (make a b)) → (one : Act) → of_two make first second ≡ Ok one → IsWellSpelledAct one
    well_two make well one e = from first refl second refl e
      where
        from : (r : Result A LineFault) → first ≡ r → (s : Result B LineFault) → second ≡ s → of_two make r s ≡ Ok one → IsWellSpelledAct one
        from (Ok a) is (Ok b) other e = subst IsWellSpelledAct (same (make a b) one e) (well a b (first_well a is) (second_well b other))
        from (Ok a) is (Err which) other e = refused which one e
        from (Err which) is s other e = refused which one e

    module _ {C : Type 0} (R : C → Type 0) (third : Result C LineFault) (third_well : (c : C) → third ≡ Ok c → R c) where
      well_three : (make : A → B → C → Act) → ((a : A) (b : B) (c : C) → P a → Q b → R c → IsWellSpelledAct (make a b c)) → (one : Act) → of_three make first second third ≡ Ok one → IsWellSpelledAct one
      well_three make well one e = from first refl second refl third refl e
        where
          from : (r : Result A LineFault) → first ≡ r → (s : Result B LineFault) → second ≡ s → (t : Result C LineFault) → third ≡ t → of_three make r s t ≡ Ok one → IsWellSpelledAct one
          from (Ok a) is (Ok b) other (Ok c) last e = subst IsWellSpelledAct (same (make a b c) one e) (well a b c (first_well a is) (second_well b other) (third_well c last))
          from (Ok a) is (Ok b) other (Err which) last e = refused which one e
          from (Ok a) is (Err which) other t last e = refused which one e
          from (Err which) is s other t last e = refused which one e

first_fits : (item : Sexp) (items : List Sexp) → AreWellSpelled (item ∷ items) → IsWellSpelled item × AreWellSpelled items
first_fits item items well = and_parts (fits_at item 0) (list_all (λ (part : ℕ → Bool). part 0) (map fits_at items)) well

third_fits : (a b c : Sexp) (items : List Sexp) → AreWellSpelled (a ∷ b ∷ c ∷ items) → IsWellSpelled c
third_fits a b c items well = (first_fits c items (first_fits b (c ∷ items) (first_fits a (b ∷ c ∷ items) well).1).1).0

act_well : (k : Kind) (parts : List Sexp) (one : Act) → AreWellSpelled parts → act_of k parts ≡ Ok one → IsWellSpelledAct one
act_well kind.Open (a ∷ []) one well e = well_one IsAddress (address_in a) (address_well a) act.Opens (λ url is. is) one e
act_well kind.Go (a ∷ b ∷ []) one well e = well_two IsNat (number_in a) (number_well a) IsAddress (address_in b) (address_well b) act.Goes (λ win url is also. (is, also)) one e
act_well kind.Link (a ∷ b ∷ []) one well e = well_two IsNat (number_in a) (number_well a) IsNat (number_in b) (number_well b) act.Links (λ win link is also. (is, also)) one e
act_well kind.Close (a ∷ []) one well e = well_one IsNat (number_in a) (number_well a) act.Closes (λ win is. is) one e
act_well kind.Type (a ∷ b ∷ c ∷ []) one well e =
    well_three IsNat (number_in a) (number_well a) IsNat (number_in b) (number_well b) IsUtf8 (string_in c) (λ text is. string_well text c is (third_fits a b c [] well)) act.Types (λ win field text is also then. (is, also, then)) one e
act_well kind.Click (a ∷ b ∷ []) one well e = well_two IsNat (number_in a) (number_well a) IsNat (number_in b) (number_well b) act.Clicks (λ win button is also. (is, also)) one e
act_well kind.Reply (a ∷ b ∷ c ∷ []) one well e =
    well_three IsDomain (domain_in a) (domain_well a) IsNat (number_in b) (number_well b) IsWellSpelledResp (response_in c) (λ resp is. response_well c resp is (third_fits a b c [] well)) act.Replies (λ domain request resp is also then. (is, also, then)) one e
act_well kind.Open [] one well e = refused fault.Count one e
act_well kind.Open (a ∷ b ∷ rest) one well e = refused fault.Count one e
act_well kind.Go [] one well e = refused fault.Count one e
act_well kind.Go (a ∷ []) one well e = refused fault.Count one e
act_well kind.Go (a ∷ b ∷ c ∷ rest) one well e = refused fault.Count one e
act_well kind.Link [] one well e = refused fault.Count one e
act_well kind.Link (a ∷ []) one well e = refused fault.Count one e
act_well kind.Link (a ∷ b ∷ c ∷ rest) one well e = refused fault.Count one e
act_well kind.Close [] one well e = refused fault.Count one e
act_well kind.Close (a ∷ b ∷ rest) one well e = refused fault.Count one e
act_well kind.Type [] one well e = refused fault.Count one e
act_well kind.Type (a ∷ []) one well e = refused fault.Count one e
act_well kind.Type (a ∷ b ∷ []) one well e = refused fault.Count one e
act_well kind.Type (a ∷ b ∷ c ∷ d ∷ rest) one well e = refused fault.Count one e
act_well kind.Click [] one well e = refused fault.Count one e
act_well kind.Click (a ∷ []) one well e = refused fault.Count one e
act_well kind.Click (a ∷ b ∷ c ∷ rest) one well e = refused fault.Count one e
act_well kind.Reply [] one well e = refused fault.Count one e
act_well kind.Reply (a ∷ []) one well e = refused fault.Count one e
act_well kind.Reply (a ∷ b ∷ []) one well e = refused fault.Count one e
act_well kind.Reply (a ∷ b ∷ c ∷ d ∷ rest) one well e = refused fault.Count one e

items_act_well : (items : List Sexp) (one : Act) → AreWellSpelled items → act_in items ≡ Ok one → IsWellSpelledAct one
items_act_well [] one well e = refused fault.Kind one e
items_act_well (item ∷ parts) one well e = from (kind_of item) e
  where
    from : (found : Option Kind) → act_or_kind found parts ≡ Ok one → IsWellSpelledAct one
    from None e = refused fault.Kind one e
    from (Some k) e = act_well k parts one (first_fits item parts well).1 e

-- ---- inputs

module _ (order : Order) (input : Input) where
  tagged_well : (tag : Option Level) → IsTag order tag → (r : Result Act LineFault) → ((one : Act) → r ≡ Ok one → IsWellSpelledAct one) → with_tag tag r ≡ Ok (Some input) → IsInputOf order input
  tagged_well tag within (Ok one) well e =
      let is : ◌≡◌ {A = Input} (record { tag = tag; act = one }) input = same_Some (record { tag = tag; act = one }) input (same (Some (record { tag = tag; act = one })) (Some input) e) in
      subst (IsInputOf order) is (record { spelled = well one refl; tag = within })
  tagged_well tag within (Err which) well e = refused which (Some input) e

  by_level : (level : Option Level) → IsTag order level → (rest : List Sexp) → AreWellSpelled rest → tagged level rest ≡ Ok (Some input) → IsInputOf order input
  by_level None within rest well e = refused fault.Level (Some input) e
  by_level (Some level) within rest well e = tagged_well (Some level) within (act_in rest) (λ one is. items_act_well rest one well is) e

  items_well : (items : List Sexp) → AreWellSpelled items → input_in order items ≡ Ok (Some input) → IsInputOf order input
  items_well [] well e = refused fault.Kind (Some input) e
  items_well (first ∷ rest) well e = from (tag_of first) e
    where
      from : (tag : Option (List ℕ)) → by_tag order tag first rest ≡ Ok (Some input) → IsInputOf order input
      from None e = tagged_well None tt (act_in (first ∷ rest)) (λ one is. items_act_well (first ∷ rest) one well is) e
      from (Some name) e = by_level (level_named order name) (level_within order name) rest (first_fits first rest well).1 e

-- an input that a line gives is one that lines spell, with a tag of the lattice
pub input_well : (order : Order) (line : List ℕ) (input : Input) → ReadsLine order line (Ok (Some input)) → IsInputOf order input
input_well order line input reads = from (Ok (Some input)) reads refl
  where
    from : (answer : Result (Option Input) LineFault) → ReadsLine order line answer → answer ≡ Ok (Some input) → IsInputOf order input
    from _ (silent quiet) e = absurd (none-some input (same None (Some input) e))
    from _ (bad_text which loud first) e = refused (fault.Text which) (Some input) e
    from _ (as_items items answer loud spells is) e = items_well order input items (well_spelled_items line items spells) (sym is ∙ e)
