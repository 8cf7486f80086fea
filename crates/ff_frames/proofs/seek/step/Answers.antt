use Rattle.std.proofs.Common.{◌∙◌, sym, vec_len, arith}
use Rattle.std.proofs.lemmas.Result.{IfOk-weaker}
use Rattle.ff_frames.proofs.Ends.{last-item}
use Rattle.ff_frames.proofs.Heads.{untouched}
use Rattle.ff_frames.proofs.Walk.{enough-held, went-fit, went-up}
use Rattle.ff_frames.proofs.seek.step.Goals as goal

pub fed-requires-clause-value : goal.fed-requires-clause-value
fed-requires-clause-value c =
    let hs = c.args.heads.now in
    let free = sym c.take_form.ensures.form ∙ c.in-None.is in
    let item = c.in-Some-last_mut.ensures.item in
    let last = last-item hs.items (vec_len hs) c.in-Some-last_mut.head.now c.in-Some-last_mut.head.now (let p = hs.ok.0 in omega arith) item.3.0 item.3.1 in
    rw (untouched c.args.hand.now c.take_form.new.self c.take_form.ensures.rest free) (enough-held hs.items last.0 c.in-Some-last_mut.head.now c.args.hand.now last.1 free c.requires.laid)

pub returns-in-Some-last_mut-clause-fit : goal.returns-in-Some-last_mut-clause-fit
returns-in-Some-last_mut-clause-fit c =
    let hs = c.args.heads.now in
    let free = sym c.take_form.ensures.form ∙ c.in-None.is in
    let item = c.in-Some-last_mut.ensures.item in
    let last = last-item hs.items (vec_len hs) c.in-Some-last_mut.head.now c.fed.new.head (let p = hs.ok.0 in omega arith) item.3.0 item.3.1 in
    IfOk-weaker c.fed.result _ _ (λ on is. went-fit hs.items _ last.0 _ _ c.args.hand.now c.fed.new.hand on last.1 last.2 (rw (untouched c.args.hand.now c.take_form.new.self c.take_form.ensures.rest free) at is) c.requires.fit) c.fed.ensures

pub returns-in-Some-last_mut-clause-laid : goal.returns-in-Some-last_mut-clause-laid
returns-in-Some-last_mut-clause-laid c =
    let hs = c.args.heads.now in
    let free = sym c.take_form.ensures.form ∙ c.in-None.is in
    let item = c.in-Some-last_mut.ensures.item in
    let last = last-item hs.items (vec_len hs) c.in-Some-last_mut.head.now c.fed.new.head (let p = hs.ok.0 in omega arith) item.3.0 item.3.1 in
    IfOk-weaker c.fed.result _ _ (λ on is. (went-up hs.items _ last.0 _ _ c.args.hand.now c.fed.new.hand on last.1 last.2 free c.requires.laid (rw (untouched c.args.hand.now c.take_form.new.self c.take_form.ensures.rest free) at is)).laid) c.fed.ensures

pub returns-in-Some-last_mut-clause-step : goal.returns-in-Some-last_mut-clause-step
returns-in-Some-last_mut-clause-step c =
    let hs = c.args.heads.now in
    let free = sym c.take_form.ensures.form ∙ c.in-None.is in
    let item = c.in-Some-last_mut.ensures.item in
    let last = last-item hs.items (vec_len hs) c.in-Some-last_mut.head.now c.fed.new.head (let p = hs.ok.0 in omega arith) item.3.0 item.3.1 in
    IfOk-weaker c.fed.result _ _ (λ on is. (went-up hs.items _ last.0 _ _ c.args.hand.now c.fed.new.hand on last.1 last.2 free c.requires.laid (rw (untouched c.args.hand.now c.take_form.new.self c.take_form.ensures.rest free) at is)).step) c.fed.ensures
