-- What the work over a trace owes, by what its loop owes for one input after another.
use Rattle.std.proofs.Common.{◌≡◌, ◌+◌, List, [], ◌∷◌, ◌++◌, refl, sym, ap, ◌∙◌, append-nil, flat_map, arith}
use Rattle.std.proofs.lemmas.Grind.{flat_map-append}
use Rattle.std.proofs.lemmas.List.Concat.{flat_map-cons}
use Rattle.ff_confinement.specs.Runs.{work_plain}
use Rattle.ff_confinement.proofs.Runs.{work_plain_start, work_plain_more}
use Rattle.ff_confinement.proofs.Sharing.{work_start, work_more}
use Rattle.ff_value.specs.Same.{same_input}
use Rattle.ff_confinement.proofs.Lines.{text_start, text_more, plain_text_start, plain_text_more}
use Rattle.ff_value.specs.declared.input.Input.{Input}
use Rattle.ff_policy.specs.Assignment.{Assignment}
use Rattle.ff_session.specs.Levels.{levels, machine}
use Rattle.ff_stream.specs.Owed as owed
use Rattle.ff_stream.proofs.Owing.{text_by_steps, turns_by_steps}
use Rattle.ff_trace.specs.Printed.{input_line}
use Rattle.ff_session.specs.Formatting.{format_entry, format_text, no_turns}
use Rattle.ff_session.specs.Plain.{plain_entry, plain_text, plain_turns}
use Rattle.ff_confinement.specs.Text.{text_of}
use Rattle.ff_confinement.specs.Standings.{fresh}
use Rattle.ff_confinement.proofs.Standings.{puts_fresh, turns_fresh}
use Rattle.ff_session.specs.Multi.{seen_by, copies_entry, copies_turns, multi_text, multi_turns}
use Rattle.ff_session.specs.Works.{multi_duty, plain_duty, format_duty}

-- the text for inputs is that of one after another
pub multi_text_is : (p : Assignment) (is : List Input) → owed.text_of (multi_duty p).entry is ≡ multi_text p is
multi_text_is p is = text_by_steps (copies_entry p (seen_by p) (fresh (machine p))) (multi_text p) (text_start (machine p) (levels p))
    (λ js i. text_more (machine p) (levels p) js i ∙ ap (λ os. multi_text p js ++ text_of (levels p) os) (sym (puts_fresh (machine p) (levels p) js i))) is

pub plain_text_is : (p : Assignment) (is : List Input) → owed.text_of (plain_duty p).entry is ≡ plain_text p is
plain_text_is p is = text_by_steps (plain_entry p) (plain_text p) (plain_text_start (machine p) (levels p)) (plain_text_more (machine p) (levels p)) is

pub format_text_is : (p : Assignment) (is : List Input) → owed.text_of (format_duty p).entry is ≡ format_text p.order is
format_text_is p is = text_by_steps (format_entry p.order) (format_text p.order) refl
    (λ js i. flat_map-append (input_line p.order) js (i ∷ []) ∙ ap (λ t. flat_map (input_line p.order) js ++ t) (flat_map-cons (input_line p.order) i [] ∙ append-nil (input_line p.order i))) is

-- and so are the turns
pub multi_turns_are : (p : Assignment) (is : List Input) → owed.turns_of (copies_turns p (seen_by p) (fresh (machine p))) is ≡ multi_turns p is
multi_turns_are p is = turns_by_steps (copies_turns p (seen_by p) (fresh (machine p))) (multi_turns p) (work_start (machine p) (levels p) same_input)
    (λ js i. work_more (machine p) (levels p) same_input js i ∙ ap (λ n. multi_turns p js + n) (sym (turns_fresh (machine p) (levels p) same_input js i))) is

pub plain_turns_are : (p : Assignment) (is : List Input) → owed.turns_of (plain_turns p) is ≡ work_plain (machine p) is
plain_turns_are p is = turns_by_steps (plain_turns p) (work_plain (machine p)) (work_plain_start (machine p)) (work_plain_more (machine p)) is

pub format_turns_are : (is : List Input) → owed.turns_of no_turns is ≡ 0
format_turns_are is = turns_by_steps no_turns (λ js. 0) refl (λ js i. omega arith) is
