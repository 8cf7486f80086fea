-- What the grammar spells, the reader reads.
use Rattle.std.proofs.Common.{◌≡◌, ◌<◌, ◌+◌, ℕ, suc, Bool, true, false, nat_lt, Ok, Err, List, [], ◌∷◌, ◌++◌, length, refl, sym, ◌∙◌, ap, subst, arith, append_assoc}
use Rattle.std.proofs.lemmas.Str.{is_utf8-from_IsUtf8}
use Rattle.std.proofs.lemmas.Bool.Decides.{nat_tests}
use Rattle.ff_text.specs.declared.items.Sexp.{Sexp}
use Rattle.ff_text.specs.declared.items.Sexp.TheVariants.{Str, List as Parens}
use Rattle.ff_text.specs.declared.items.TextFault.TheVariants as fault
use Rattle.ff_text.specs.declared.bytes.Class.TheVariants as class
use Rattle.ff_text.specs.declared.reader.Reader.{Reader}
use Rattle.ff_text.specs.declared.reader.Opened.{Opened}
use Rattle.ff_text.specs.Classes.{class_of, in_str_of}
use Rattle.ff_text.specs.Notation.{span, Spells, nothing, blank, a_word, a_string, a_list, SpellsItems}
use Rattle.ff_text.specs.Machine.{advance, step, outside_class, open_list, end_str, verdict, verdict_of}
use Rattle.ff_text.proofs.Standing.{between, wording, Stands, advance-none, advance-more, advance-then, step_stands, finish_stands, word_run}
use Rattle.ff_text.proofs.Strings.{quoting, value_run}
use Rattle.ff_text.proofs.Steps.{end_str-good}
use Rattle.ff_name.specs.declared.limits.TheConstants.{MOST_DEPTH}

-- from a place between items, the bytes take the reader to after the items
pub record Reaches (opened : List Opened) (from at : ℕ) (bytes : List ℕ) (items : List Sexp) (ended : Bool) : Type 0 where
  pub reader : Reader
  pub stands : Stands opened at items ended reader
  pub runs : advance bytes (Ok (between opened [] from)) ≡ Ok reader

-- a byte that ends words, after the items
pub reaches_step : (opened : List Opened) (from at : ℕ) (bytes : List ℕ) (items : List Sexp) (ended : Bool) → (reached : Reaches opened from at bytes items ended) → (b : ℕ) → (step reached.reader b ≡ outside_class (class_of b) (between opened items at) b) → advance (bytes ++ b ∷ []) (Ok (between opened [] from)) ≡ outside_class (class_of b) (between opened items at) b
reaches_step opened from at bytes items ended reached b e = advance-more bytes b (Ok (between opened [] from)) reached.reader reached.runs ∙ e

class_blank : class_of 32 ≡ class.Blank
unfolding class_of
class_blank = refl

class_open : class_of 40 ≡ class.Open
unfolding class_of
class_open = refl

class_close : class_of 41 ≡ class.Close
unfolding class_of
class_close = refl

class_quote : class_of 34 ≡ class.Quote
unfolding class_of
class_quote = refl

pub step_blank : (opened : List Opened) (at : ℕ) (items : List Sexp) (ended : Bool) (r : Reader) → Stands opened at items ended r → step r 32 ≡ Ok (between opened items (at + 1))
step_blank opened at items ended r stands = step_stands opened at items ended r 32 class.Blank stands class_blank tt

pub step_quote : (opened : List Opened) (at : ℕ) (items : List Sexp) (ended : Bool) (r : Reader) → Stands opened at items ended r → step r 34 ≡ Ok (quoting opened items (at + 1) at [])
step_quote opened at items ended r stands = step_stands opened at items ended r 34 class.Quote stands class_quote tt

open_list-room : (opened : List Opened) (items : List Sexp) (at : ℕ) → length opened < MOST_DEPTH → open_list (between opened items at) ≡ Ok (between (record { from = at; before = items } ∷ opened) [] (at + 1))
open_list-room opened items at room = let test : nat_lt (length opened) MOST_DEPTH ≡ true = grind (arith, nat_tests) in rw test

pub open_list-full : (opened : List Opened) (items : List Sexp) (at : ℕ) → length opened ≡ MOST_DEPTH → open_list (between opened items at) ≡ Err (fault.TooDeep at)
open_list-full opened items at full = let test : nat_lt (length opened) MOST_DEPTH ≡ false = grind (arith, nat_tests) in rw test

pub step_open : (opened : List Opened) (at : ℕ) (items : List Sexp) (ended : Bool) (r : Reader) → Stands opened at items ended r → length opened < MOST_DEPTH → step r 40 ≡ Ok (between (record { from = at; before = items } ∷ opened) [] (at + 1))
step_open opened at items ended r stands room = step_stands opened at items ended r 40 class.Open stands class_open tt ∙ open_list-room opened items at room

pub step_deep : (opened : List Opened) (at : ℕ) (items : List Sexp) (ended : Bool) (r : Reader) → Stands opened at items ended r → length opened ≡ MOST_DEPTH → step r 40 ≡ Err (fault.TooDeep at)
step_deep opened at items ended r stands full = step_stands opened at items ended r 40 class.Open stands class_open tt ∙ open_list-full opened items at full

pub step_close : (opened : List Opened) (place : ℕ) (before : List Sexp) (at : ℕ) (items : List Sexp) (ended : Bool) (r : Reader) → Stands (record { from = place; before = before } ∷ opened) at items ended r → step r 41 ≡ Ok (between opened (before ++ Parens (span place (at + 1)) items ∷ []) (at + 1))
step_close opened place before at items ended r stands = step_stands (record { from = place; before = before } ∷ opened) at items ended r 41 class.Close stands class_close tt

pub step_extra : (at : ℕ) (items : List Sexp) (ended : Bool) (r : Reader) → Stands [] at items ended r → step r 41 ≡ Err (fault.Extra at)
step_extra at items ended r stands = step_stands [] at items ended r 41 class.Close stands class_close tt

pub step_mark : (opened : List Opened) (items : List Sexp) (at from : ℕ) (value : List ℕ) → step (quoting opened items at from value) 34 ≡ end_str (quoting opened items at from value) from
unfolding step in_str_of
step_mark opened items at from value = refl

pub complete : (deep from to : ℕ) (bytes : List ℕ) (items : List Sexp) (ended : Bool) → Spells deep from to bytes items ended → (opened : List Opened) → length opened ≡ deep → Reaches opened from to bytes items ended
complete deep from to bytes items ended (nothing deep' from') opened depth = record { reader = between opened [] from'; stands = refl; runs = advance-none (Ok (between opened [] from')) }
complete deep from to bytes items ended (blank deep' from' to' bytes' items' ended' s) opened depth =
    let reached = complete deep' from' to' bytes' items' ended' s opened depth in
    record {
      reader = between opened items' (to' + 1);
      stands = refl;
      runs = advance-more bytes' 32 (Ok (between opened [] from')) reached.reader reached.runs ∙ step_blank opened to' items' ended' reached.reader reached.stands;
    }
complete deep from to bytes items ended (a_word deep' from' to' bytes' items' word s w) opened depth =
    let reached = complete deep' from' to' bytes' items' false s opened depth in
    record {
      reader = wording opened items' (to' + length word) to' word;
      stands = record { before = items'; from = to'; word = word; last = refl; is = refl };
      runs = advance-then bytes' word (Ok (between opened [] from')) reached.reader _ reached.runs
          (subst (λ r. advance word (Ok r) ≡ Ok (wording opened items' (to' + length word) to' word)) (sym reached.stands) (word_run opened items' to' word w));
    }
complete deep from to bytes items ended (a_string deep' from' to' bytes' items' ended' body value s v utf8) opened depth =
    let reached = complete deep' from' to' bytes' items' ended' s opened depth in
    let opening = advance-more bytes' 34 (Ok (between opened [] from')) reached.reader reached.runs ∙ step_quote opened to' items' ended' reached.reader reached.stands in
    let within = advance-then (bytes' ++ 34 ∷ []) body (Ok (between opened [] from')) (quoting opened items' (to' + 1) to' []) _ opening (value_run opened items' (to' + 1) to' body value v) in
    let closing = advance-more ((bytes' ++ 34 ∷ []) ++ body) 34 (Ok (between opened [] from')) (quoting opened items' (to' + 1 + length body) to' value) within in
    let whole : ((bytes' ++ 34 ∷ []) ++ body) ++ 34 ∷ [] ≡ bytes' ++ (34 ∷ (body ++ 34 ∷ [])) = simp append_assoc in
    record {
      reader = between opened (items' ++ Str (span to' (to' + 1 + length body + 1)) value ∷ []) (to' + 1 + length body + 1);
      stands = refl;
      runs = ap (λ bs. advance bs (Ok (between opened [] from'))) (sym whole) ∙ closing ∙ step_mark opened items' (to' + 1 + length body) to' value
          ∙ end_str-good (quoting opened items' (to' + 1 + length body) to' value) to' (is_utf8-from_IsUtf8 value utf8);
    }
complete deep from to bytes items ended (a_list deep' from' to' close bytes' inner items' parts ended' inner_ended s room t) opened depth =
    let reached = complete deep' from' to' bytes' items' ended' s opened depth in
    let opening = advance-more bytes' 40 (Ok (between opened [] from')) reached.reader reached.runs ∙ step_open opened to' items' ended' reached.reader reached.stands (subst (λ n. n < MOST_DEPTH) (sym depth) room) in
    let deeper = complete (suc deep') (to' + 1) close inner parts inner_ended t (record { from = to'; before = items' } ∷ opened) (ap suc depth) in
    let within = advance-then (bytes' ++ 40 ∷ []) inner (Ok (between opened [] from')) _ _ opening deeper.runs in
    let closing = advance-more ((bytes' ++ 40 ∷ []) ++ inner) 41 (Ok (between opened [] from')) deeper.reader within in
    let whole : ((bytes' ++ 40 ∷ []) ++ inner) ++ 41 ∷ [] ≡ bytes' ++ (40 ∷ (inner ++ 41 ∷ [])) = simp append_assoc in
    record {
      reader = between opened (items' ++ Parens (span to' (close + 1)) parts ∷ []) (close + 1);
      stands = refl;
      runs = ap (λ bs. advance bs (Ok (between opened [] from'))) (sym whole) ∙ closing ∙ step_close opened to' items' close parts inner_ended deeper.reader deeper.stands;
    }

-- what the whole of a text spells is the reader's answer
pub verdict_from_spelled : (bytes : List ℕ) (items : List Sexp) → SpellsItems bytes items → verdict bytes ≡ Ok items
verdict_from_spelled bytes items spelled =
    let reached = complete 0 0 spelled.to bytes items spelled.ended spelled.spells [] refl in
    ap verdict_of reached.runs ∙ finish_stands [] spelled.to items spelled.ended reached.reader reached.stands
