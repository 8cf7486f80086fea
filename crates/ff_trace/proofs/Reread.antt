-- What is read from the items of an input is the input.
use Rattle.std.proofs.Common.{◌≡◌, ◌<◌, ◌^◌, ◌==◌, ℕ, true, false, List, [], ◌∷◌, ◌++◌, map, Option, Some, None, Result, Ok, codes, refl, sym, ap, ◌∙◌, subst}
use Rattle.std.specs.Prelude.{IfSome}
use Rattle.ff_lattice.specs.Order.{Order, name, level_named, IsTag, IsOrder}
use Rattle.ff_name.specs.Address.{printed, as_printed}
use Rattle.ff_name.specs.Address as address
use Rattle.ff_name.specs.Spelling.{IsDomain}
use Rattle.ff_name.specs.declared.levels.Level.{Level}
use Rattle.ff_name.specs.declared.urls.Url.{Url}
use Rattle.ff_number.specs.Decimal.{nat_text}
use Rattle.ff_text.specs.Notation.{span}
use Rattle.ff_text.proofs.Layers.{spelled-Word}
use Rattle.ff_text.specs.Printed.{bare}
use Rattle.ff_text.specs.declared.items.Sexp.{Sexp, out-Sexp}
use Rattle.ff_value.specs.Spelled.{IsWellSpelledAct, IsWellSpelledInput, IsWellSpelledResp}
use Rattle.ff_value.specs.declared.input.Act.{Act}
use Rattle.ff_value.specs.declared.input.Act.TheVariants as act
use Rattle.ff_value.specs.declared.input.Input.{Input}
use Rattle.ff_value.specs.declared.reply.Resp.{Resp}
use Rattle.ff_forms.specs.Canonical.{word, string, resp_item}
use Rattle.ff_name.specs.Reading.{is_domain, read_url}
use Rattle.ff_name.proofs.Reading.{read_url_found, is_domain-from}
use Rattle.ff_reading.proofs.Completes.{resp_complete}
use Rattle.ff_printing.proofs.Respelled.{resp_respelled}
use Rattle.ff_trace.specs.declared.fault.LineFault.{LineFault}
use Rattle.ff_trace.specs.declared.fault.LineFault.TheVariants as fault
use Rattle.ff_value.specs.declared.kind.Kind.{Kind}
use Rattle.ff_value.specs.declared.kind.Kind.TheVariants as kind
use Rattle.ff_value.specs.Kinds.{word_of, own_word}
use Rattle.ff_trace.specs.Lines.{act_in, act_of, act_or_kind, kind_of, kind_word, after_at, tag_word, by_tag, tagged, with_tag, input_in, of_one, of_two, of_three, is_silent, ReadsLine, as_items}
use Rattle.ff_trace.specs.Parts.{number_of, domain_of, by_word, by_string, or_fault, or_syntax, number_in, address_in, domain_in, string_in, response_in}
use Rattle.ff_trace.specs.Printed.{number, act_items, tag_items, input_items, input_text, joined}
use Rattle.ff_trace.proofs.Back.{line_back}
use Rattle.ff_trace.proofs.Fitting.{input_fits}
use Rattle.ff_trace.proofs.Cuts.{act_begun}
use Rattle.ff_trace.proofs.Bare.{word_from, string_from, Again, none, more, again_from}
use Rattle.ff_lattice.proofs.Named.{level_found}
use Rattle.ff_trace.proofs.Numbers.{number_spelled}

-- ---- one part

read_again : {A : Type 0} (which : LineFault) (read : List ℕ → Option A) (item : Sexp) (text : List ℕ) (value : A) → bare item ≡ bare (word text) → read text ≡ Some value → by_word which read (out-Sexp item) ≡ Ok value
read_again {A} which read item text value same e =
    let is = word_from item text same in
    ap (by_word which read) is.is ∙ ap (or_fault which) e

pub number_again : (item : Sexp) (n : ℕ) → n < 2 ^ 32 → bare item ≡ bare (number n) → number_in item ≡ Ok n
number_again item n small same = read_again fault.Number number_of item (nat_text n) n same (number_spelled n (nat_text n) small refl)

pub address_again : (item : Sexp) (url : Url) → address.IsWellSpelled url → bare item ≡ bare (word (printed url)) → address_in item ≡ Ok url
address_again item url well same = read_again fault.Url read_url item (printed url) url same (read_url_found (printed url) url (as_printed url well))

domain_spelled : (text : List ℕ) → IsDomain text → domain_of text ≡ Some text
domain_spelled text h = let test : is_domain text ≡ true = is_domain-from text h in rw test refl

pub domain_again : (item : Sexp) (text : List ℕ) → IsDomain text → bare item ≡ bare (word text) → domain_in item ≡ Ok text
domain_again item text h same = read_again fault.Url domain_of item text text same (domain_spelled text h)

pub string_again : (item : Sexp) (value : List ℕ) → bare item ≡ bare (string value) → string_in item ≡ Ok value
string_again item value same = let is = string_from item value same in ap by_string is.is

response_again : (item : Sexp) (resp : Resp) → IsWellSpelledResp resp → bare item ≡ bare (resp_item resp) → response_in item ≡ Ok resp
response_again item resp well same = ap or_syntax (resp_complete item resp (resp_respelled resp well.spelled item same))

kind_again : (item : Sexp) (k : Kind) → bare item ≡ bare (word (word_of k)) → kind_of item ≡ Some k
kind_again item k same = let is = word_from item (word_of k) same in ap kind_word is.is ∙ own_word k

begun_again : (item : Sexp) (parts : List Sexp) (k : Kind) → bare item ≡ bare (word (word_of k)) → act_in (item ∷ parts) ≡ act_of k parts
begun_again item parts k same = ap (λ (found : Option Kind). act_or_kind found parts) (kind_again item k same)

one_again : {A : Type 0} (make : A → Act) (first : Result A LineFault) (a : A) → first ≡ Ok a → of_one make first ≡ Ok (make a)
one_again make first a e = ap (of_one make) e

two_again : {A B : Type 0} (make : A → B → Act) (first : Result A LineFault) (second : Result B LineFault) (a : A) (b : B) → first ≡ Ok a → second ≡ Ok b → of_two make first second ≡ Ok (make a b)
two_again make first second a b e f = ap (λ r. of_two make r second) e ∙ one_again (make a) second b f

three_again : {A B C : Type 0} (make : A → B → C → Act) (first : Result A LineFault) (second : Result B LineFault) (third : Result C LineFault) (a : A) (b : B) (c : C) → first ≡ Ok a → second ≡ Ok b → third ≡ Ok c → of_three make first second third ≡ Ok (make a b c)
three_again make first second third a b c e f g = ap (λ r. of_three make r second third) e ∙ two_again (make a) second third b c f g

-- ---- an act

act_again : (items : List Sexp) (one : Act) → IsWellSpelledAct one → Again items (act_items one) → act_in items ≡ Ok one
act_again items (act.Opens url) well (more k _ _ _ is (more u _ _ _ e none)) =
    begun_again k (u ∷ []) kind.Open is ∙ one_again act.Opens (address_in u) url (address_again u url well e)
act_again items (act.Goes win url) well (more k _ _ _ is (more w _ _ _ e (more u _ _ _ f none))) =
    begun_again k (w ∷ u ∷ []) kind.Go is ∙ two_again act.Goes (number_in w) (address_in u) win url (number_again w win well.0 e) (address_again u url well.1 f)
act_again items (act.Links win link) well (more k _ _ _ is (more w _ _ _ e (more l _ _ _ f none))) =
    begun_again k (w ∷ l ∷ []) kind.Link is ∙ two_again act.Links (number_in w) (number_in l) win link (number_again w win well.0 e) (number_again l link well.1 f)
act_again items (act.Closes win) well (more k _ _ _ is (more w _ _ _ e none)) =
    begun_again k (w ∷ []) kind.Close is ∙ one_again act.Closes (number_in w) win (number_again w win well e)
act_again items (act.Types win field text) well (more k _ _ _ is (more w _ _ _ e (more n _ _ _ f (more t _ _ _ g none)))) =
    begun_again k (w ∷ n ∷ t ∷ []) kind.Type is
    ∙ three_again act.Types (number_in w) (number_in n) (string_in t) win field text (number_again w win well.0 e) (number_again n field well.1 f) (string_again t text g)
act_again items (act.Clicks win button) well (more k _ _ _ is (more w _ _ _ e (more n _ _ _ f none))) =
    begun_again k (w ∷ n ∷ []) kind.Click is ∙ two_again act.Clicks (number_in w) (number_in n) win button (number_again w win well.0 e) (number_again n button well.1 f)
act_again items (act.Replies domain request resp) well (more k _ _ _ is (more d _ _ _ e (more n _ _ _ f (more r _ _ _ g none)))) =
    begun_again k (d ∷ n ∷ r ∷ []) kind.Reply is
    ∙ three_again act.Replies (domain_in d) (number_in n) (response_in r) domain request resp (domain_again d domain well.0 e) (number_again n request well.1 f) (response_again r resp well.2 g)

-- ---- an input

no_tag : (k : Kind) → after_at (word_of k) ≡ None
no_tag kind.Open = refl
no_tag kind.Go = refl
no_tag kind.Link = refl
no_tag kind.Close = refl
no_tag kind.Type = refl
no_tag kind.Click = refl
no_tag kind.Reply = refl

no_tag_again : (order : Order) (items parts : List Sexp) (k : Kind) → Again items (word (word_of k) ∷ parts) → input_in order items ≡ with_tag None (act_in items)
no_tag_again order items parts k (more item _ rest _ e others) =
    let is = word_from item (word_of k) e in
    ap (λ (found : Option (List ℕ)). by_tag order found item rest) (ap tag_word is.is ∙ no_tag k)

tag_again : (order : Order) (items others : List Sexp) (text : List ℕ) (level : Level) (one : Act) → level_named order text ≡ Some level → Again items (word (64 ∷ text) ∷ others) → ((rest : List Sexp) → Again rest others → act_in rest ≡ Ok one) → input_in order items ≡ Ok (Some (record { tag = Some level; act = one }))
tag_again order items others text level one named (more item _ rest _ e again) each =
    let is = word_from item (64 ∷ text) e in
    ap (λ (found : Option (List ℕ)). by_tag order found item rest) (ap tag_word is.is)
    ∙ ap (λ (found : Option Level). tagged found rest) named
    ∙ ap (with_tag (Some level)) (each rest again)

input_by : (order : Order) (tag : Option Level) (one : Act) → IfSome tag (λ _. IsOrder order) → IsTag order tag → IsWellSpelledAct one → (items : List Sexp) → Again items (tag_items order tag ++ act_items one) → input_in order items ≡ Ok (Some (record { tag = tag; act = one }))
input_by order None one valid is_tag well items again =
    let begun = act_begun one in
    no_tag_again order items begun.parts begun.first (subst (Again items) begun.is again) ∙ ap (with_tag None) (act_again items one well again)
input_by order (Some level) one valid is_tag well items again =
    tag_again order items (act_items one) (name order level.0) level one (level_found order (name order level.0) level valid is_tag refl) again (λ rest same. act_again rest one well same)

-- what is read from the items of an input, whatever their places, is the input
pub input_again : (order : Order) (input : Input) → IfSome input.tag (λ _. IsOrder order) → IsTag order input.tag → IsWellSpelledInput input → (items : List Sexp) → map bare items ≡ map bare (input_items order input) → input_in order items ≡ Ok (Some input)
input_again order input valid is_tag well items same = input_by order input.tag input.act valid is_tag well items (again_from items (input_items order input) same)

-- ---- a line

record BeginsWith (bytes : List ℕ) (first : ℕ) : Type 0 where
  rest : List ℕ
  is : bytes ≡ first ∷ rest

joined_begins : (text : List ℕ) (first : ℕ) (rest : List ℕ) (items : List Sexp) → text ≡ first ∷ rest → BeginsWith (joined (word text ∷ items)) first
joined_begins text first rest [] e = record { rest = rest; is = spelled-Word (span 0 0) text ∙ e }
joined_begins text first rest (item ∷ items) e = record { rest = rest ++ 32 ∷ joined (item ∷ items); is = ap (λ bs. bs ++ 32 ∷ joined (item ∷ items)) (spelled-Word (span 0 0) text ∙ e) }

not_silent : (bytes : List ℕ) (first : ℕ) → BeginsWith bytes first → (first == 32) ≡ false → (first == 35) ≡ false → is_silent bytes ≡ false
not_silent bytes first begins e f = ap is_silent begins.is ∙ rw (e, f) refl

kind_first : (k : Kind) (items : List Sexp) → is_silent (joined (word (word_of k) ∷ items)) ≡ false
kind_first kind.Open items = not_silent _ 111 (joined_begins (codes "open") 111 _ items refl) refl refl
kind_first kind.Go items = not_silent _ 103 (joined_begins (codes "go") 103 _ items refl) refl refl
kind_first kind.Link items = not_silent _ 108 (joined_begins (codes "link") 108 _ items refl) refl refl
kind_first kind.Close items = not_silent _ 99 (joined_begins (codes "close") 99 _ items refl) refl refl
kind_first kind.Type items = not_silent _ 116 (joined_begins (codes "type") 116 _ items refl) refl refl
kind_first kind.Click items = not_silent _ 99 (joined_begins (codes "click") 99 _ items refl) refl refl
kind_first kind.Reply items = not_silent _ 114 (joined_begins (codes "reply") 114 _ items refl) refl refl

speaks : (order : Order) (tag : Option Level) (one : Act) → is_silent (joined (tag_items order tag ++ act_items one)) ≡ false
speaks order None one = let begun = act_begun one in ap (λ (items : List Sexp). is_silent (joined items)) begun.is ∙ kind_first begun.first begun.parts
speaks order (Some level) one = not_silent _ 64 (joined_begins (64 ∷ name order level.0) 64 (name order level.0) (act_items one) refl) refl refl

-- what is printed for an input is read as the input
pub line_again : (order : Order) (input : Input) → IfSome input.tag (λ _. IsOrder order) → IsTag order input.tag → IsWellSpelledInput input → ReadsLine order (input_text order input) (Ok (Some input))
line_again order input valid is_tag well =
    let back = line_back (input_items order input) (input_fits order input valid is_tag well) in
    as_items back.again (Ok (Some input)) (speaks order input.tag input.act) back.spells (sym (input_again order input valid is_tag well back.again back.same))
