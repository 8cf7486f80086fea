-- What is appended in steps is appended whole.
use Rattle.std.proofs.Common.{◌≡◌, Result, Ok, Err, List, [], ◌++◌, refl, sym, ap, ◌∙◌, subst, append_assoc, append-nil}
use Rattle.std.specs.Prelude.{OnOk, OnErr, IsErr}
use Rattle.ff_contract.specs.Appending.{AppendsFront, Appends, AppendsAll}

-- a front of the first of two steps
pub front_first : {A : Type 0} (old new first more all : List A) → all ≡ first ++ more → AppendsFront old new first → AppendsFront old new all
front_first old new first more all cut front = record {
  front = front.front;
  rest = front.rest ++ more;
  cut = cut ∙ ap (λ bs. bs ++ more) front.cut ∙ append_assoc front.front front.rest more;
  appended = front.appended;
}

-- all of the first step, and a front of the second
pub front_second : {A : Type 0} (old mid new first more all : List A) → all ≡ first ++ more → mid ≡ old ++ first → AppendsFront mid new more → AppendsFront old new all
front_second old mid new first more all cut done front = record {
  front = first ++ front.front;
  rest = front.rest;
  cut = cut ∙ ap (λ bs. first ++ bs) front.cut ∙ sym (append_assoc first front.front front.rest);
  appended = front.appended ∙ ap (λ bs. bs ++ front.front) done ∙ append_assoc old first front.front;
}

-- all of the first step, and a front of the second of three
pub front_middle : {A : Type 0} (old mid new first item more all : List A) → all ≡ first ++ (item ++ more) → mid ≡ old ++ first → AppendsFront mid new item → AppendsFront old new all
front_middle old mid new first item more all cut done front = record {
  front = first ++ front.front;
  rest = front.rest ++ more;
  cut = cut ∙ ap (λ bs. first ++ (bs ++ more)) front.cut ∙ ap (λ bs. first ++ bs) (append_assoc front.front front.rest more) ∙ sym (append_assoc first front.front (front.rest ++ more));
  appended = front.appended ∙ ap (λ bs. bs ++ front.front) done ∙ append_assoc old first front.front;
}

-- nothing was appended
pub front_none : {A : Type 0} (old new all : List A) → new ≡ old → AppendsFront old new all
front_none old new all same = record { front = []; rest = all; cut = refl; appended = same ∙ sym (append-nil old) }

-- one step after another
pub appends_after : {X E A : Type 0} (answer : Result X E) (old mid new first more all : List A) → all ≡ first ++ more → mid ≡ old ++ first → Appends answer mid new more → Appends answer old new all
appends_after (Ok it) old mid new first more all cut done e = e ∙ ap (λ bs. bs ++ more) done ∙ append_assoc old first more ∙ ap (λ bs. old ++ bs) (sym cut)
appends_after (Err refused) old mid new first more all cut done front = front_second old mid new first more all cut done front

-- a step that appends all of its items or none
pub appends_whole : {X E A : Type 0} (answer : Result X E) (old new all : List A) → AppendsAll answer old new all → Appends answer old new all
appends_whole (Ok it) old new all e = e
appends_whole (Err refused) old new all e = front_none old new all e

-- the two outcomes apart
pub appends_ok : {X E A : Type 0} (answer : Result X E) (old new all : List A) → Appends answer old new all → OnOk answer (new ≡ old ++ all)
appends_ok (Ok it) old new all e = e
appends_ok (Err refused) old new all front = tt

pub appends_err : {X E A : Type 0} (answer : Result X E) (old new all : List A) → Appends answer old new all → OnErr answer (AppendsFront old new all)
appends_err (Ok it) old new all e = tt
appends_err (Err refused) old new all front = front

-- and together
pub appends_both : {X E A : Type 0} (answer : Result X E) (old new all : List A) → OnOk answer (new ≡ old ++ all) → OnErr answer (AppendsFront old new all) → Appends answer old new all
appends_both (Ok it) old new all ok err = ok
appends_both (Err refused) old new all ok err = err

-- the same items in other words
pub appends_same : {X E A : Type 0} (answer : Result X E) (old new item all : List A) → item ≡ all → Appends answer old new item → Appends answer old new all
appends_same (Ok it) old new item all is e = e ∙ ap (λ bs. old ++ bs) is
appends_same (Err refused) old new item all is front = subst (AppendsFront old new) is front

-- after a refusal a front was appended
pub appends_front : {X E A : Type 0} (answer : Result X E) (old new all : List A) → IsErr answer → AppendsFront old new all → Appends answer old new all
appends_front (Ok it) old new all err front = cc
appends_front (Err refused) old new all err front = front

-- whole steps that make a front
pub front_done : {A : Type 0} (old new all done rest : List A) → new ≡ old ++ done → all ≡ done ++ rest → AppendsFront old new all
front_done old new all done rest e cut = record { front = done; rest = rest; cut = cut; appended = e }

-- the last step, which appends all of its items or none
pub appends_last : {X E A : Type 0} (answer : Result X E) (old mid new all done last : List A) → AppendsAll answer mid new last → mid ≡ old ++ done → all ≡ done ++ last → Appends answer old new all
appends_last (Ok it) old mid new all done last e before cut = e ∙ ap (λ bs. bs ++ last) before ∙ append_assoc old done last ∙ ap (λ bs. old ++ bs) (sym cut)
appends_last (Err refused) old mid new all done last e before cut = front_done old new all done last (e ∙ before) cut
