-- What heads a list, and what a list answers from its head and its form.
use Rattle.std.proofs.Common.{◌≡◌, ℕ, List, Option, ok_or, cond, Result, Ok, Err, sym, ap, ◌∙◌}
use Rattle.std.specs.List.{list_any}
use Rattle.std.specs.Str.{bytes_eq}
use Rattle.ff_text.specs.declared.items.Span.{Span}
use Rattle.ff_text.specs.declared.items.Sexp.{Sexp}
use Rattle.ff_text.specs.declared.items.Sexp.TheVariants as sexp
use Rattle.ff_forms.specs.Grammar.{Placed, a_head, reading, and_then, head_as}
use Rattle.ff_name.specs.Words.{with_word}
use Rattle.ff_forms.specs.declared.fault.SyntaxFault.{SyntaxFault}
use Rattle.ff_forms.specs.declared.fault.SyntaxFault.TheVariants as fault
use Rattle.ff_reading.proofs.Layers.{word_layer, string_layer, list_layer}

abbrev pub by_table : {H : Type 0} → (H → List ℕ) → List H → Result Placed SyntaxFault → Result H SyntaxFault
by_table word_at heads r = and_then r (λ placed. ok_or (with_word word_at heads placed.word) (fault.Head placed.from))

pub head_word : {H : Type 0} (word_at : H → List ℕ) (heads : List H) (first : Sexp) (at : Span) (word bytes : List ℕ) (found : Option H) → first ≡ sexp.Word at word → bytes ≡ word → found ≡ with_word word_at heads bytes
    → ok_or found (fault.Head at.from) ≡ head_as word_at heads (reading first)
head_word word_at heads first at word bytes found e same is =
    ap (λ o. ok_or o (fault.Head at.from)) (is ∙ ap (with_word word_at heads) same) ∙ ap (by_table word_at heads) (sym (word_layer first at word a_head e))

pub head_string : {H : Type 0} (word_at : H → List ℕ) (heads : List H) (first : Sexp) (at : Span) (text : List ℕ) → first ≡ sexp.Str at text → Err (fault.Head at.from) ≡ head_as word_at heads (reading first)
head_string word_at heads first at text e = ap (by_table word_at heads) (sym (string_layer first at text a_head e))

pub head_list : {H : Type 0} (word_at : H → List ℕ) (heads : List H) (first : Sexp) (at : Span) (parts : List Sexp) → first ≡ sexp.List at parts → Err (fault.Head at.from) ≡ head_as word_at heads (reading first)
head_list word_at heads first at parts e = ap (by_table word_at heads) (sym (list_layer first at parts a_head e))

abbrev pub after_names : List (List ℕ) → Result Placed SyntaxFault → Result (List ℕ) SyntaxFault
after_names before r = and_then r (λ x. cond (list_any (bytes_eq x.word) before) (Err (fault.Name x.from)) (Ok x.word))
