-- A newline behind the text of a JSON value changes nothing.
use Rattle.std.proofs.Common.{◌≡◌, ℕ, Bool, true, false, cond, ◌&&◌, List, [], ◌∷◌, ◌++◌, option_and_then, refl, sym, ap, ap₂, ◌∙◌, append_assoc}
use Rattle.json.specs.Token.{Token, begin_object, end_object, begin_array, end_array, key, string, number, boolean, null, bad}
use Rattle.json.specs.Json as json
use Rattle.json.specs.Lex.{Lexeme, token, comma, colon, string_token, lex, between, fresh, punctuate, tokens}
use Rattle.json.specs.Print.{escape, quoted, token_text, begins, ends, print_from, print, IsPrintable, ArePrintable}
use Rattle.json.specs.Tree.{json_tokens, HasNumbers}
use Rattle.json.specs.Word.{ends_word, word}
use Rattle.json.proofs.Printed.Numbers.{lex-number, in_word-ended}
use Rattle.json.proofs.Printed.Strings.{content-escape, lex-escape}
use Rattle.json.proofs.Printed.Trees.{ArePrintable-json_tokens}
use Rattle.serde_json.specs.Data.{Data}
use Rattle.serde_json.specs.Read.{of_json, max_depth, read}
use Rattle.serde_json.specs.Written.{outline, compact_text}
use Rattle.serde_json.proofs.Texts.{print-outline}

-- where a word may end, it may end before a newline too
ends_before : (r : List ℕ) → ends_word r ≡ true → ends_word (r ++ 10 ∷ []) ≡ true
ends_before [] is = refl
ends_before (x ∷ xs) is = is

-- what follows a value ends a word
value_ends : (ts : List Token) → ends_word (print_from true ts) ≡ true
unfolding print_from
value_ends [] = refl
value_ends (begin_object ∷ ts) = refl
value_ends (end_object ∷ ts) = refl
value_ends (begin_array ∷ ts) = refl
value_ends (end_array ∷ ts) = refl
value_ends (key s ∷ ts) = refl
value_ends (string s ∷ ts) = refl
value_ends (number s ∷ ts) = refl
value_ends (boolean b ∷ ts) = refl
value_ends (null ∷ ts) = refl
value_ends (bad ∷ ts) = refl

-- the text of a token gives its lexemes, whatever follows it
record Reads (t : Token) : Type 0 where
  lexemes : List Lexeme
  is : (r : List ℕ) → (ends t ≡ true → ends_word r ≡ true) → lex between (token_text t ++ r) ≡ lexemes ++ lex between r

string_read : (s r : List ℕ) → lex between (quoted s ++ r) ≡ token (string s) ∷ lex between r
unfolding lex
string_read s r = ap (λ l. lex between (34 ∷ l)) (append_assoc (escape s) (34 ∷ []) r) ∙ ap₂ (λ o l. token (string_token o) ∷ l) (content-escape s r) (lex-escape s r)

reads : (t : Token) → IsPrintable t → Reads t
unfolding lex word
reads begin_object is = record { lexemes = token begin_object ∷ []; is = λ r ended. refl }
reads end_object is = record { lexemes = token end_object ∷ []; is = λ r ended. refl }
reads begin_array is = record { lexemes = token begin_array ∷ []; is = λ r ended. refl }
reads end_array is = record { lexemes = token end_array ∷ []; is = λ r ended. refl }
reads (key s) is = record { lexemes = token (string s) ∷ colon ∷ []; is = λ r ended. ap (lex between) (append_assoc (quoted s) (58 ∷ []) r) ∙ string_read s (58 ∷ r) }
reads (string s) is = record { lexemes = token (string s) ∷ []; is = λ r ended. string_read s r }
reads (number s) is = record { lexemes = token (number s) ∷ []; is = λ r ended. lex-number s r is (ended refl) }
reads (boolean true) is = record { lexemes = token (boolean true) ∷ []; is = λ r ended. ap₂ (λ b l. token (cond b (boolean true) bad) ∷ l) (ended refl) (in_word-ended r (ended refl)) }
reads (boolean false) is = record { lexemes = token (boolean false) ∷ []; is = λ r ended. ap₂ (λ b l. token (cond b (boolean false) bad) ∷ l) (ended refl) (in_word-ended r (ended refl)) }
reads null is = record { lexemes = token null ∷ []; is = λ r ended. ap₂ (λ b l. token (cond b null bad) ∷ l) (ended refl) (in_word-ended r (ended refl)) }
reads bad is = absurd is

comma_read : (b : Bool) (r : List ℕ) → lex between (cond b (44 ∷ []) [] ++ r) ≡ cond b (comma ∷ []) [] ++ lex between r
unfolding lex
comma_read true r = refl
comma_read false r = refl

newline : List ℕ
newline = 10 ∷ []

same_lexemes : (c : Bool) (ts : List Token) → ArePrintable ts → lex between (print_from c ts ++ newline) ≡ lex between (print_from c ts)
unfolding lex print_from ArePrintable newline
same_lexemes c [] are = refl
same_lexemes c (t ∷ ts) are =
    let first = reads t are.0 in
    let rest = print_from (ends t) ts in
    let ended : ends t ≡ true → ends_word rest ≡ true = λ e. ap (λ b. ends_word (print_from b ts)) e ∙ value_ends ts in
    let sep = cond (c && begins t) (44 ∷ []) [] in
    let both = λ (l : List Lexeme). cond (c && begins t) (comma ∷ []) [] ++ (first.lexemes ++ l) in
    ap (lex between) (append_assoc sep (token_text t ++ rest) newline ∙ ap (λ (l : List ℕ). sep ++ l) (append_assoc (token_text t) rest newline))
    ∙ comma_read (c && begins t) (token_text t ++ (rest ++ newline))
    ∙ ap (λ (l : List Lexeme). cond (c && begins t) (comma ∷ []) [] ++ l) (first.is (rest ++ newline) (λ e. ends_before rest (ended e)))
    ∙ ap both (same_lexemes (ends t) ts are.1)
    ∙ sym (comma_read (c && begins t) (token_text t ++ rest) ∙ ap (λ (l : List Lexeme). cond (c && begins t) (comma ∷ []) [] ++ l) (first.is rest ended))

same_tokens : (ts : List Token) → ArePrintable ts → tokens (print ts ++ 10 ∷ []) ≡ tokens (print ts)
unfolding newline
same_tokens ts are = ap (punctuate fresh) (same_lexemes false ts are)

-- so the text of a value, with a newline behind it, is read as the text alone is
pub same_value : (d : Data) → HasNumbers (outline d) → read (compact_text d ++ 10 ∷ []) ≡ read (compact_text d)
same_value d numbers =
    let text = print-outline d in
    let same : tokens (compact_text d ++ 10 ∷ []) ≡ tokens (compact_text d) =
    ap (λ (bytes : List ℕ). tokens (bytes ++ 10 ∷ [])) (sym text) ∙ same_tokens (json_tokens (outline d)) (ArePrintable-json_tokens (outline d) numbers) ∙ ap tokens text in
    ap (λ (ts : List Token). option_and_then of_json (option_and_then (λ p. json.if_last p.0 p.1) (json.value max_depth ts))) same
