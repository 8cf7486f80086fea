-- Each drawn line is that of an input under the built-in policy, and the bytes of the generator are
-- a trace of exactly these inputs.
use Rattle.std.proofs.Common.{◌≡◌, ℕ, zero, suc, ◌+◌, ◌*◌, ◌==◌, ◌%◌, ◌<◌, ◌≤◌, ◌^◌, inl, Bool, true, false, if◌then◌else◌, Option, Some, None, Ok, List, [], ◌∷◌, ◌++◌, length, map, codes, refl, sym, ap, subst, ◌∙◌, append-nil, append_assoc, length-append, arith}
use Rattle.std.specs.List.{AllByRecursion, flat_map, list_all}
use Rattle.std.specs.Char.{is_ascii_digit}
use Rattle.std.specs.Option.{IfSome}
use Rattle.std.specs.Str.{IsUtf8}
use Rattle.std.proofs.lemmas.Bool.{and_from, ne_eqb}
use Rattle.std.proofs.lemmas.Bool.Decides.{nat_tests}
use Rattle.std.proofs.lemmas.List.{map-append}
use Rattle.std.proofs.lemmas.List.Concat.{flat_map-append, flat_map-cons}
use Rattle.std.proofs.lemmas.Fmt.{decimal_digit}
use Rattle.std.proofs.lemmas.Nat.{mod_below}
use Rattle.ff_io.specs.declared.lines.TheConstants.{MOST_TRACE_BYTES}
use Rattle.ff_io.specs.Cutting.{has_newline, content, after_line, line_size}
use Rattle.ff_io.proofs.CuttingLemmas.{content-after, after_line-after, has_newline-after}
use Rattle.ff_name.specs.declared.levels.Level.{Level}
use Rattle.ff_name.specs.declared.urls.Url.TheVariants.{At}
use Rattle.ff_name.specs.Spelling.{IsDomain, IsName}
use Rattle.ff_name.proofs.Ascii.{list_all-wider}
use Rattle.ff_name.proofs.Reading.{IsDomain-from, IsName-from}
use Rattle.ff_number.specs.Decimal.{nat_text}
use Rattle.ff_number.proofs.Texts.{digits-nat_text}
use Rattle.ff_tree.specs.Ops.{arity_of}
use Rattle.ff_tree.specs.declared.op.Op.{Op}
use Rattle.ff_tree.specs.declared.op.Op.TheVariants as op
use Rattle.ff_tree.specs.declared.tree.Lit.TheVariants as lit
use Rattle.ff_tree.specs.declared.tree.Doc.{Doc}
use Rattle.ff_tree.specs.declared.tree.Doc.TheVariants as doc
use Rattle.ff_tree.specs.declared.tree.Expr.{Expr}
use Rattle.ff_tree.specs.declared.tree.Expr.TheVariants as expr
use Rattle.ff_tree.specs.declared.tree.Handler.{Handler, out-roll-Handler}
use Rattle.ff_tree.specs.Spelled.{IsVar, AreParams, handler_spelled, IsSpelledExpr, IsSpelledDoc, IsSpelledHandler}
use Rattle.ff_tree.proofs.Layers.{IsSpelledExpr-Lit, IsSpelledExpr-Var, IsSpelledExpr-Make, IsSpelledExpr-Prim, IsSpelledDoc-TextBox, IsSpelledDoc-Button, IsSpelledHandler-out}
use Rattle.ff_text.specs.Bytes.{is_plain_byte, is_word_byte}
use Rattle.ff_text.specs.Printed.{quoted}
use Rattle.ff_text.proofs.Appending.{plain_spelled}
use Rattle.ff_text.proofs.Ascii.{IsUtf8-word}
use Rattle.ff_text.proofs.Layers.{spelled-Word, spelled-Str, spelled-List}
use Rattle.ff_forms.specs.Grammar.{handler}
use Rattle.ff_forms.proofs.Depths.{handler_depth-handler, expr_depth-Lit, expr_depth-Var, expr_depth-Make, expr_depth-Prim, doc_depth-TextBox, doc_depth-Button}
use Rattle.ff_printing.proofs.Items.{expr_item-Lit, expr_item-Var, expr_item-Make, expr_item-Prim, doc_item-TextBox, doc_item-Button, handler_item-is}
use Rattle.ff_lattice.specs.Order.{two, IsOrder, IsTag}
use Rattle.ff_lattice.proofs.Two.{two-is_order}
use Rattle.ff_value.specs.Spelled.{IsWellSpelledInput, IsWellSpelledResp}
use Rattle.ff_value.specs.declared.input.Act.{Act}
use Rattle.ff_value.specs.declared.input.Act.TheVariants as act
use Rattle.ff_value.specs.declared.input.Input.{Input}
use Rattle.ff_value.specs.declared.reply.Resp.{Resp}
use Rattle.ff_value.specs.declared.reply.Resp.TheVariants as resp
use Rattle.ff_trace.specs.Printed.{input_text, input_line}
use Rattle.ff_trace.proofs.Fitting.{IsOneLine, input_one_line}
use Rattle.ff_trace.proofs.Reread.{line_again}
use Rattle.ff_policy.specs.Assignment.{builtin}
use Rattle.ff_gen.specs.Workload.{following, typed, line_of, draw_of, number_at, workload}
use Rattle.ff_gen.specs.declared.generator.TheConstants.{MOST_LINES}
use Rattle.ff_stream.specs.Traces.{Reads, at_end, good_line}
use Rattle.ff_session.specs.Giving.{Gives}
use Rattle.ff_session.specs.Claims.{IsTraceFor}
use Rattle.ff_writing.specs.Generated.{IsDrawn, AreDrawn}
use Rattle.ff_writing.proofs.DrawnLines.{short_line}

-- ---- the page that a reply brings

abbrev name : List ℕ → Expr
name x = expr.Var x

abbrev text : List ℕ → Expr
text value = expr.Lit (lit.Str value)

-- the box sends what is typed
abbrev sends : Handler
sends = handler (codes "n") (expr.Prim op.Ask (text (codes "http://b.com/q") ∷ expr.Prim op.Text (name (codes "n") ∷ []) ∷ expr.Make (codes "r" ∷ []) (expr.Lit lit.Null) ∷ []))

-- the button shows what the box has
abbrev shows : Handler
shows = handler (codes "n")
    (expr.Prim op.SetText (name (codes "n") ∷ expr.Prim op.Cat (text (codes "s") ∷ expr.Prim op.Text (expr.Prim op.Find (expr.Prim op.Page (expr.Prim op.SelfWindow [] ∷ []) ∷ text (codes "b") ∷ []) ∷ []) ∷ []) ∷ []))

abbrev page : Resp
page = resp.Page [] (doc.TextBox (codes "b") [] (sends ∷ []) ∷ doc.Button (codes "g") (codes "go") (shows ∷ []) ∷ [])

a_variable : (x : List ℕ) → IsName x → ¬ (x ≡ codes "null") → ¬ (x ≡ codes "true") → ¬ (x ≡ codes "false") → IsVar x
a_variable x is no_null no_true no_false = record { name = is; not_null = no_null; not_true = no_true; not_false = no_false }

n_is : IsVar (codes "n")
n_is = a_variable (codes "n") (IsName-from (codes "n") refl) (λ e. cc) (λ e. cc) (λ e. cc)

r_is : IsVar (codes "r")
r_is = a_variable (codes "r") (IsName-from (codes "r") refl) (λ e. cc) (λ e. cc) (λ e. cc)

word_text : (value : List ℕ) → list_all is_word_byte value ≡ true → IsUtf8 value
word_text value all = IsUtf8-word value all

var_spelled : (x : List ℕ) → IsVar x → IsSpelledExpr (expr.Var x)
var_spelled x is = rw (IsSpelledExpr-Var x) is

text_spelled : (value : List ℕ) → IsUtf8 value → IsSpelledExpr (text value)
text_spelled value utf8 = rw (IsSpelledExpr-Lit (lit.Str value)) utf8

prim_spelled : (o : Op) (es : List Expr) → length es ≡ arity_of o → AllByRecursion IsSpelledExpr es → IsSpelledExpr (expr.Prim o es)
prim_spelled o es count each = rw (IsSpelledExpr-Prim o es) (count, each)

make_spelled : (params : List (List ℕ)) (e : Expr) → AreParams params → IsSpelledExpr e → IsSpelledExpr (expr.Make params e)
make_spelled params e are is = rw (IsSpelledExpr-Make params e) (are, is)

handler_is : (x : List ℕ) (e : Expr) → IsVar x → IsSpelledExpr e → IsSpelledHandler (handler x e)
handler_is x e var is =
    let layer = IsSpelledHandler-out (handler x e) ∙ ap (handler_spelled Doc Expr Handler IsSpelledDoc IsSpelledExpr IsSpelledHandler) (out-roll-Handler (record { param = x; body = e })) in
    subst (λ T. T) (sym layer) (var, is)

sends_spelled : IsSpelledHandler sends
sends_spelled =
    handler_is (codes "n") _ n_is (prim_spelled op.Ask _ refl (
      text_spelled (codes "http://b.com/q") (word_text (codes "http://b.com/q") refl),
      (prim_spelled op.Text _ refl (var_spelled (codes "n") n_is, tt), (make_spelled (codes "r" ∷ []) _ (record { vars = (r_is, tt); differ = (tt, tt) }) (rw (IsSpelledExpr-Lit lit.Null) tt), tt)),
    ))

shows_spelled : IsSpelledHandler shows
shows_spelled =
    handler_is (codes "n") _ n_is (prim_spelled op.SetText _ refl (
      var_spelled (codes "n") n_is,
      (
        prim_spelled op.Cat _ refl (
          text_spelled (codes "s") (word_text (codes "s") refl),
          (
            prim_spelled op.Text _ refl (
              prim_spelled op.Find _ refl (prim_spelled op.Page _ refl (prim_spelled op.SelfWindow _ refl tt, tt), (text_spelled (codes "b") (word_text (codes "b") refl), tt)),
              tt,
            ),
            tt,
          ),
        ),
        tt,
      ),
    ))

page_spelled : IsWellSpelledResp page
page_spelled = record {
  spelled = (
    tt,
    (
      rw (IsSpelledDoc-TextBox) (IsName-from (codes "b") refl, word_text [] refl, omega arith, (sends_spelled, tt)),
      (rw (IsSpelledDoc-Button) (IsName-from (codes "g") refl, word_text (codes "go") refl, omega arith, (shows_spelled, tt)), tt),
    ),
  );
  shallow = simp (doc_depth-TextBox, doc_depth-Button, handler_depth-handler, expr_depth-Prim, expr_depth-Lit, expr_depth-Var, expr_depth-Make) (omega arith);
}

-- ---- the input of a drawn line

-- the bytes are the line of this input, which lines spell
record IsLineOf (bytes : List ℕ) (i : Input) : Type 0 where
  is : bytes ≡ input_line two i
  spelled : IsWellSpelledInput i
  tag : IsTag two i.tag

abbrev Drawn : List ℕ → Type 0
Drawn bytes = (i : Input) × IsLineOf bytes i

abbrev untagged : Act → Input
untagged one = record { tag = None; act = one }

-- at the level H
abbrev secret : Act → Input
secret one = record { tag = Some (record { 0 = 1 }); act = one }

a_com : IsDomain (codes "a.com")
a_com = IsDomain-from (codes "a.com") refl

zero_text : nat_text 0 ≡ 48 ∷ []
zero_text = decimal_digit 0 (omega arith)

digit_word : (b : ℕ) → is_ascii_digit b ≡ true → is_word_byte b ≡ true
digit_word b is = grind (arith, nat_tests)

digit_plain : (b : ℕ) → is_ascii_digit b ≡ true → is_plain_byte b ≡ true
digit_plain b is = grind (arith, nat_tests)

module _ (letter draw : ℕ) (word : is_word_byte letter ≡ true) (plain : is_plain_byte letter ≡ true) (small : draw < 65536) where
  abbrev value : List ℕ
  value = letter ∷ nat_text draw

  digits : list_all is_ascii_digit (nat_text draw) ≡ true
  digits = digits-nat_text draw (omega arith)

  value_utf8 : IsUtf8 value
  value_utf8 = IsUtf8-word value (and_from (is_word_byte letter) (list_all is_word_byte (nat_text draw)) word (list_all-wider is_ascii_digit is_word_byte digit_word (nat_text draw) digits))

  value_quoted : quoted value ≡ 34 ∷ letter ∷ (nat_text draw ++ 34 ∷ [])
  unfolding quoted
  value_quoted =
      ap (λ bs. 34 ∷ (bs ++ 34 ∷ [])) (plain_spelled value (and_from (is_plain_byte letter) (list_all is_plain_byte (nat_text draw)) plain (list_all-wider is_ascii_digit is_plain_byte digit_plain (nat_text draw) digits)))

  ends : (nat_text draw ++ 34 ∷ []) ++ 10 ∷ [] ≡ nat_text draw ++ codes "\"\n"
  ends = append_assoc (nat_text draw) (34 ∷ []) (10 ∷ [])

typed_line : (draw : ℕ) → draw < 65536 → Drawn (typed (codes "type 0 0 \"t") draw)
typed_line draw small = (
  untagged (act.Types 0 0 (116 ∷ nat_text draw)),
  record {
    is = sym (simp (spelled-Word, spelled-Str, zero_text, value_quoted 116 draw refl refl small) (ap (λ bs. codes "type 0 0 \"t" ++ bs) (ends 116 draw refl refl small)));
    spelled = (omega arith, omega arith, value_utf8 116 draw refl refl small);
    tag = tt;
  },
)

secret_line : (draw : ℕ) → draw < 65536 → Drawn (typed (codes "@H type 0 0 \"s") draw)
secret_line draw small = (
  secret (act.Types 0 0 (115 ∷ nat_text draw)),
  record {
    is = sym (simp (spelled-Word, spelled-Str, zero_text, value_quoted 115 draw refl refl small) (ap (λ bs. codes "@H type 0 0 \"s" ++ bs) (ends 115 draw refl refl small)));
    spelled = (omega arith, omega arith, value_utf8 115 draw refl refl small);
    tag = omega arith;
  },
)

abbrev page_line : List ℕ
page_line = codes "reply a.com 0 (doc () (box b \"\" (fn (n) (ask \"http://b.com/q\" (text n) (fn (r) null)))) (button g \"go\" (fn (n) (set-text n (cat \"s\" (text (find (page (self)) \"b\")))))))\n"

page_printed : input_line two (untagged (act.Replies (codes "a.com") 0 page)) ≡ page_line
unfolding quoted
page_printed = simp (doc_item-TextBox, doc_item-Button, handler_item-is, expr_item-Prim, expr_item-Make, expr_item-Lit, expr_item-Var, spelled-Word, spelled-Str, spelled-List, zero_text) refl

opened_line : Drawn (codes "open http://a.com/p\n")
opened_line = (
  untagged (act.Opens (At (codes "a.com") (codes "/p"))),
  record {
    is = sym (simp (spelled-Word) refl);
    spelled = (a_com, record { begins = refl; made_of = refl; short = omega arith });
    tag = tt;
  },
)

gone_line : Drawn (codes "go 0 http://a.com/p\n")
gone_line = (
  untagged (act.Goes 0 (At (codes "a.com") (codes "/p"))),
  record {
    is = sym (simp (spelled-Word, zero_text) refl);
    spelled = (omega arith, (a_com, record { begins = refl; made_of = refl; short = omega arith }));
    tag = tt;
  },
)

answered_line : Drawn (codes "reply b.com 0 (data () \"ok\")\n")
unfolding quoted
answered_line = (
  untagged (act.Replies (codes "b.com") 0 (resp.Data [] (codes "ok"))),
  record {
    is = sym (simp (spelled-Word, spelled-Str, spelled-List, zero_text) refl);
    spelled = (IsDomain-from (codes "b.com") refl, omega arith, record { spelled = (tt, word_text (codes "ok") refl); shallow = omega arith });
    tag = tt;
  },
)

paged_line : Drawn page_line
paged_line = (untagged (act.Replies (codes "a.com") 0 page), record { is = sym page_printed; spelled = (a_com, omega arith, page_spelled); tag = tt })

clicked_line : Drawn (codes "click 0 0\n")
clicked_line = (untagged (act.Clicks 0 0), record { is = sym (simp (spelled-Word, zero_text) refl); spelled = (omega arith, omega arith); tag = tt })

clicked_secretly : Drawn (codes "@H click 0 0\n")
clicked_secretly = (secret (act.Clicks 0 0), record { is = sym (simp (spelled-Word, zero_text) refl); spelled = (omega arith, omega arith); tag = omega arith })

either : (b : Bool) (x y : List ℕ) → Drawn x → Drawn y → Drawn (if b then x else y)
either true x y first second = first
either false x y first second = second

drawn_input : (draw : ℕ) → draw < 65536 → Drawn (line_of draw)
drawn_input draw small =
    either (draw % 8 == 0) _ _ opened_line
    (either (draw % 8 == 1) _ _ paged_line
    (either (draw % 8 == 2) _ _ (typed_line draw small)
    (either (draw % 8 == 3) _ _ (secret_line draw small)
    (either (draw % 8 == 4) _ _ clicked_line
    (either (draw % 8 == 5) _ _ answered_line
    (either (draw % 8 == 6) _ _ clicked_secretly gone_line))))))

some_order : (tag : Option Level) → IfSome tag (λ _. IsOrder two)
some_order None = tt
some_order (Some level) = two-is_order

gives_drawn : (bytes : List ℕ) (i : Input) → IsLineOf bytes i → Gives two (input_text two i) (Ok (Some i))
gives_drawn bytes i line = Gives.an_input i (line_again two i (some_order i.tag) line.tag line.spelled) (record { spelled = line.spelled; tag = line.tag })

-- each number draws the line of an input
pub draws_input : (number : ℕ) → number < 2 ^ 32 → (i : Input) × IsDrawn builtin.order number i
draws_input number small =
    let found = drawn_input (draw_of number) (omega arith) in
    (found.0, record { line = input_text two found.0; line_is = found.1.is; gives = gives_drawn (line_of (draw_of number)) found.0 found.1 })

-- ---- the lines of a trace

-- one of its lines, which this number draws, and the input that it gives
record Given : Type 0 where
  number : ℕ
  input : Input
  line_is : line_of (draw_of number) ≡ input_line two input
  one_line : has_newline (input_text two input) ≡ false
  short : length (input_line two input) ≤ 300
  gives : Gives two (input_text two input) (Ok (Some input))

abbrev line_bytes : Given → List ℕ
line_bytes given = input_line two given.input

abbrev bytes_of : List Given → List ℕ
bytes_of givens = flat_map line_bytes givens

abbrev inputs_of : List Given → List Input
inputs_of givens = map (λ given. given.input) givens

no_newline : (bytes : List ℕ) → IsOneLine bytes → has_newline bytes ≡ false
no_newline [] one = refl
no_newline (b ∷ bytes) one =
    ap (λ t. if t then true else has_newline bytes) (ne_eqb b 10 (one 0 b (omega arith))) ∙ no_newline bytes (λ k d inside. one (suc k) d (omega (arith, inside)))

given_of : (number old : ℕ) → number ≡ following old → Given
given_of number old is =
    let small : number < 2 ^ 32 = (let below = mod_below (1664525 * old + 1013904223) (2 ^ 32) (omega arith) in omega (arith, is, below)) in
    let found = drawn_input (draw_of number) (omega arith) in
    let ends = short_line (draw_of number) (omega arith) in
    record {
      number = number;
      input = found.0;
      line_is = found.1.is;
      one_line = no_newline (input_text two found.0) (input_one_line two found.0 (some_order found.0.tag) found.1.tag found.1.spelled);
      short = subst (λ bs. length bs ≤ 300) found.1.is ends.short;
      gives = gives_drawn (line_of (draw_of number)) found.0 found.1;
    }

lines_read : (givens : List Given) (number start : ℕ) → start + 300 * length givens ≤ MOST_TRACE_BYTES → Reads (Gives two) true number start (bytes_of givens) (inputs_of givens) None
lines_read [] number start fits = at_end number start [] refl refl
lines_read (given ∷ givens) number start fits =
    subst (λ bs. Reads (Gives two) true number start bs (inputs_of (given ∷ givens)) None) (sym (flat_map-cons line_bytes given givens ∙ append_assoc line (10 ∷ []) rest))
    (good_line number start (line ++ 10 ∷ rest) (Some given.input) (inputs_of givens) None (inl here)
    (record { short = let short = given.short in omega (arith, ap length cut, long); within = let short = given.short in omega (arith, size, long) })
    (subst (λ bs. Gives two bs (Ok (Some given.input))) (sym cut) given.gives)
    (subst (λ bs. Reads (Gives two) true (number + 1) (start + line_size (line ++ 10 ∷ rest)) bs (inputs_of givens) None) (sym left)
    (lines_read givens (number + 1) (start + line_size (line ++ 10 ∷ rest)) (let short = given.short in omega (arith, size, long)))))
  where
    line : List ℕ
    line = input_text two given.input

    rest : List ℕ
    rest = bytes_of givens

    here : has_newline (line ++ 10 ∷ rest) ≡ true
    here = has_newline-after line (10 ∷ rest) given.one_line

    cut : content (line ++ 10 ∷ rest) ≡ line
    cut = content-after line (10 ∷ rest) given.one_line ∙ append-nil line

    left : after_line (line ++ 10 ∷ rest) ≡ rest
    left = after_line-after line (10 ∷ rest) given.one_line

    long : length (line ++ 10 ∷ []) ≡ length line + 1
    long = length-append line (10 ∷ [])

    size : line_size (line ++ 10 ∷ rest) ≡ length line + 1
    size = ap (λ bs. length bs + (if has_newline (line ++ 10 ∷ rest) then 1 else 0)) cut ∙ ap (λ t. length line + (if t then 1 else 0)) here

-- ---- the bytes of the generator

givens_of : ℕ → ℕ → List Given
givens_of start zero = []
givens_of start (suc n) = givens_of start n ++ given_of (number_at start (suc n)) (number_at start n) refl ∷ []

last_bytes : (start n : ℕ) → line_bytes (given_of (number_at start (suc n)) (number_at start n) refl) ≡ line_of (draw_of (number_at start (suc n)))
unfolding given_of
last_bytes start n = sym (given_of (number_at start (suc n)) (number_at start n) refl).line_is

givens_bytes : (start n : ℕ) → bytes_of (givens_of start n) ≡ workload start n
unfolding givens_of
givens_bytes start zero = refl
givens_bytes start (suc n) =
    let last = given_of (number_at start (suc n)) (number_at start n) refl in
    flat_map-append line_bytes (givens_of start n) (last ∷ []) ∙ ap (λ bs. bs ++ bytes_of (last ∷ [])) (givens_bytes start n)
    ∙ ap (λ bs. workload start n ++ bs) (flat_map-cons line_bytes last [] ∙ append-nil (line_bytes last) ∙ last_bytes start n)

givens_count : (start n : ℕ) → length (givens_of start n) ≡ n
unfolding givens_of
givens_count start zero = refl
givens_count start (suc n) = let before = givens_count start n in omega (arith, before, length-append (givens_of start n) (given_of (number_at start (suc n)) (number_at start n) refl ∷ []))

givens_drawn : (start n : ℕ) → AreDrawn builtin.order start n (inputs_of (givens_of start n))
unfolding givens_of given_of
givens_drawn start zero = refl
givens_drawn start (suc n) =
    let last = given_of (number_at start (suc n)) (number_at start n) refl in
    (inputs_of (givens_of start n), last.input, map-append (λ (given : Given). given.input) (givens_of start n) (last ∷ []), givens_drawn start n, record { line = input_text two last.input; line_is = last.line_is; gives = last.gives })

-- so many bytes of the generator are the trace of the inputs that are drawn
pub workload_is_trace : (start n : ℕ) → n ≤ MOST_LINES → (is : List Input) × AreDrawn builtin.order start n is × IsTraceFor builtin true (workload start n) is None
workload_is_trace start n few =
    let givens = givens_of start n in
    let many = givens_count start n in (
      inputs_of givens,
      givens_drawn start n,
      subst (λ bs. IsTraceFor builtin true bs (inputs_of givens) None) (givens_bytes start n) (lines_read givens 1 0 (omega (arith, many))),
    )
