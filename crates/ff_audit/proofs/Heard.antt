-- The lines of two texts that come to a comparison, one after another; and the lines of a longer
-- text.
use Rattle.std.proofs.Common.{◌≡◌, ℕ, ◌+◌, ◌<◌, ◌≤◌, ◌==◌, Bool, true, false, cond, List, [], ◌∷◌, ◌++◌, length, filter, map, bytes_eq, refl, sym, ap, subst, ◌∙◌, append-nil, append_assoc, arith}
use Rattle.std.specs.List.{onto_first}
use Rattle.std.proofs.lemmas.List.Elements.{filter-append}
use Rattle.ff_io.specs.Cutting.{content}
use Rattle.ff_confinement.specs.Text.{lines, first_word, onto_lines, text_of, text_out, line_of}
use Rattle.ff_confinement.specs.Copies.{Levels}
use Rattle.ff_confinement.specs.Runs.{joined}
use Rattle.ff_session.specs.OwnLines.{own_lines, own_contents}
use Rattle.ff_lattice.specs.Order.{Order, name}
use Rattle.ff_audit.specs.Owned.{own}
use Rattle.ff_audit.specs.Comparing.{plain_more, multi_more, Kept, ComparesAt, TakesSame}
use Rattle.ff_audit.specs.declared.comparison.Side.{Side}
use Rattle.ff_audit.specs.declared.comparison.Side.TheVariants.{Plain, Multi}

-- ---- the loop over lines

plain_twice : {X : Type 0} (side : Side) (xs ys : List X) (z : X) → plain_more side (plain_more side xs ys) (z ∷ []) ≡ plain_more side xs (ys ++ z ∷ [])
plain_twice Plain xs ys z = append_assoc xs ys (z ∷ [])
plain_twice Multi xs ys z = refl

multi_twice : {X : Type 0} (side : Side) (xs ys : List X) (z : X) → multi_more side (multi_more side xs ys) (z ∷ []) ≡ multi_more side xs (ys ++ z ∷ [])
multi_twice Plain xs ys z = refl
multi_twice Multi xs ys z = append_assoc xs ys (z ∷ [])

plain_none : {X : Type 0} (side : Side) (xs : List X) → plain_more side xs [] ≡ xs
plain_none Plain xs = append-nil xs
plain_none Multi xs = refl

multi_none : {X : Type 0} (side : Side) (xs : List X) → multi_more side xs [] ≡ xs
multi_none Plain xs = refl
multi_none Multi xs = append-nil xs

-- Where the loop stands: these lines came to the comparison, and those of the rest are to come.
pub record HasHeard (side : Side) (word text rest : List ℕ) (first now : Kept) : Type 0 where
  pub done : List (List ℕ)
  pub split : own_contents word text ≡ done ++ own_contents word rest
  pub goes : (ps ms : List (List ℕ)) → ComparesAt first ps ms → ComparesAt now (plain_more side ps done) (multi_more side ms done)

pub heard_none : (side : Side) (word text : List ℕ) (first : Kept) → HasHeard side word text text first first
heard_none side word text first = record {
  done = [];
  split = refl;
  goes = λ ps ms has. subst (λ qs. ComparesAt first qs (multi_more side ms [])) (sym (plain_none side ps)) (subst (ComparesAt first ps) (sym (multi_none side ms)) has);
}

-- one line more, which comes next
pub heard_more : (side : Side) (word text rest line more : List ℕ) (first now next : Kept) → HasHeard side word text rest first now → own_contents word rest ≡ content line ∷ own_contents word more
    → ((ps ms : List (List ℕ)) → ComparesAt now ps ms → ComparesAt next (plain_more side ps (content line ∷ [])) (multi_more side ms (content line ∷ [])))
    → HasHeard side word text more first next
heard_more side word text rest line more first now next has is goes = record {
  done = has.done ++ content line ∷ [];
  split = has.split ∙ ap (λ ls. has.done ++ ls) is ∙ sym (append_assoc has.done (content line ∷ []) (own_contents word more));
  goes = λ ps ms at.
      subst (λ qs. ComparesAt next qs (multi_more side ms (has.done ++ content line ∷ []))) (plain_twice side ps has.done (content line))
      (subst (ComparesAt next (plain_more side (plain_more side ps has.done) (content line ∷ []))) (multi_twice side ms has.done (content line))
      (goes (plain_more side ps has.done) (multi_more side ms has.done) (has.goes ps ms at)));
}

pub heard_all : (side : Side) (word text rest : List ℕ) (first now : Kept) → HasHeard side word text rest first now → own_contents word rest ≡ []
    → (ps ms : List (List ℕ)) → ComparesAt first ps ms → ComparesAt now (plain_more side ps (own_contents word text)) (multi_more side ms (own_contents word text))
heard_all side word text rest first now has none ps ms at =
    let all : has.done ≡ own_contents word text = sym (has.split ∙ ap (λ ls. has.done ++ ls) none ∙ append-nil has.done) in
    subst (λ ls. ComparesAt now (plain_more side ps ls) (multi_more side ms ls)) all (has.goes ps ms at)

-- ---- the next line of a word

-- where the search stands: no line of the word was passed
pub record Seeks (word text rest : List ℕ) : Type 0 where
  pub same : own_contents word text ≡ own_contents word rest
  pub shorter : length rest ≤ length text

pub seeks_first : (word text : List ℕ) → Seeks word text text
seeks_first word text = record { same = refl; shorter = omega arith }

module _ (word text rest line more : List ℕ) (seeks : Seeks word text rest) (cut : lines rest ≡ line ∷ lines more) where
  split_by : (test : Bool) → bytes_eq word (first_word line) ≡ test → own_contents word rest ≡ map content (cond test (line ∷ own_lines word more) (own_lines word more))
  split_by test is = ap (λ ls. map content (filter (λ l. bytes_eq word (first_word l)) ls)) cut ∙ ap (λ b. map content (cond b (line ∷ own_lines word more) (own_lines word more))) is

  pub seeks_more : bytes_eq word (first_word line) ≡ false → length rest ≡ length line + length more → Seeks word text more
  seeks_more is whole = record { same = seeks.same ∙ split_by false is; shorter = let short = seeks.shorter in omega (arith, short, whole) }

-- ---- the lines that are the same in both texts

pub taken : (word plain multi more others line other : List ℕ) (before now : Kept) → own_contents word plain ≡ content line ∷ own_contents word more → own_contents word multi ≡ content other ∷ own_contents word others
    → length more < length plain → line ≡ other → ((x : List ℕ) (ps ms : List (List ℕ)) → ComparesAt before ps ms → ComparesAt now (ps ++ x ∷ []) (ms ++ x ∷ [])) → TakesSame word plain multi more others before now
taken word plain multi more others line other before now found also less same counted = record {
  line = content line;
  in_plain = found;
  in_multi = also ∙ ap (λ l. content l ∷ own_contents word others) (sym same);
  shorter = less;
  counted = counted (content line);
}

-- These lines were taken from both, and what is left is to come.
pub record HasMet (word plain multi plain_rest multi_rest : List ℕ) (first now : Kept) : Type 0 where
  pub done : List (List ℕ)
  pub in_plain : own_contents word plain ≡ done ++ own_contents word plain_rest
  pub in_multi : own_contents word multi ≡ done ++ own_contents word multi_rest
  pub goes : (ps ms : List (List ℕ)) → ComparesAt first ps ms → ComparesAt now (ps ++ done) (ms ++ done)

pub met_none : (word plain multi : List ℕ) (first : Kept) → HasMet word plain multi plain multi first first
met_none word plain multi first = record {
  done = [];
  in_plain = refl;
  in_multi = refl;
  goes = λ ps ms has. subst (λ qs. ComparesAt first qs (ms ++ [])) (sym (append-nil ps)) (subst (ComparesAt first ps) (sym (append-nil ms)) has);
}

pub met_more : (word plain multi plain_rest multi_rest more others : List ℕ) (first now next : Kept) → HasMet word plain multi plain_rest multi_rest first now
    → TakesSame word plain_rest multi_rest more others now next → HasMet word plain multi more others first next
met_more word plain multi plain_rest multi_rest more others first now next has takes = record {
  done = has.done ++ takes.line ∷ [];
  in_plain = has.in_plain ∙ ap (λ ls. has.done ++ ls) takes.in_plain ∙ sym (append_assoc has.done (takes.line ∷ []) (own_contents word more));
  in_multi = has.in_multi ∙ ap (λ ls. has.done ++ ls) takes.in_multi ∙ sym (append_assoc has.done (takes.line ∷ []) (own_contents word others));
  goes = λ ps ms at.
      subst (λ qs. ComparesAt next qs (ms ++ (has.done ++ takes.line ∷ []))) (append_assoc ps has.done (takes.line ∷ []))
      (subst (ComparesAt next ((ps ++ has.done) ++ takes.line ∷ [])) (append_assoc ms has.done (takes.line ∷ []))
      (takes.counted (ps ++ has.done) (ms ++ has.done) (has.goes ps ms at)));
}

-- then what is left of each text came
pub met_all : (word plain multi plain_rest multi_rest : List ℕ) (first now mid last : Kept) → HasMet word plain multi plain_rest multi_rest first now
    → ((ps ms : List (List ℕ)) → ComparesAt now ps ms → ComparesAt mid (ps ++ own_contents word plain_rest) ms)
    → ((ps ms : List (List ℕ)) → ComparesAt mid ps ms → ComparesAt last ps (ms ++ own_contents word multi_rest))
    → (ps ms : List (List ℕ)) → ComparesAt first ps ms → ComparesAt last (ps ++ own_contents word plain) (ms ++ own_contents word multi)
met_all word plain multi plain_rest multi_rest first now mid last has hears_plain hears_multi ps ms at =
    subst (λ qs. ComparesAt last qs (ms ++ own_contents word multi)) (append_assoc ps has.done (own_contents word plain_rest) ∙ ap (λ ls. ps ++ ls) (sym has.in_plain))
    (subst (ComparesAt last ((ps ++ has.done) ++ own_contents word plain_rest)) (append_assoc ms has.done (own_contents word multi_rest) ∙ ap (λ ls. ms ++ ls) (sym has.in_multi))
    (hears_multi ((ps ++ has.done) ++ own_contents word plain_rest) (ms ++ has.done) (hears_plain (ps ++ has.done) (ms ++ has.done) (has.goes ps ms at))))

-- ---- the lines of a longer text

record HasFirst (ls : List (List ℕ)) : Type 0 where
  head : List ℕ
  rest : List (List ℕ)
  is : ls ≡ head ∷ rest

onto_some : (x : ℕ) (ls : List (List ℕ)) → HasFirst ls → HasFirst (onto_lines x ls)
onto_some x ls has = from (x == 10) refl
  where
    from : (t : Bool) → (x == 10) ≡ t → HasFirst (onto_lines x ls)
    from true is = record { head = x ∷ []; rest = ls; is = ap (λ b. cond b ((x ∷ []) ∷ ls) (onto_first x ls)) is }
    from false is = record { head = x ∷ has.head; rest = has.rest; is = ap (λ b. cond b ((x ∷ []) ∷ ls) (onto_first x ls)) is ∙ ap (onto_first x) has.is }

onto-append : (x : ℕ) (ls ms : List (List ℕ)) → HasFirst ls → onto_lines x (ls ++ ms) ≡ onto_lines x ls ++ ms
onto-append x ls ms has = from (x == 10) refl
  where
    from : (t : Bool) → (x == 10) ≡ t → onto_lines x (ls ++ ms) ≡ onto_lines x ls ++ ms
    from true is = ap (λ b. cond b ((x ∷ []) ∷ (ls ++ ms)) (onto_first x (ls ++ ms))) is ∙ sym (ap (λ b. cond b ((x ∷ []) ∷ ls) (onto_first x ls) ++ ms) is)
    from false is =
        ap (λ b. cond b ((x ∷ []) ∷ (ls ++ ms)) (onto_first x (ls ++ ms))) is ∙ ap (λ ks. onto_first x (ks ++ ms)) has.is
        ∙ sym (ap (λ b. cond b ((x ∷ []) ∷ ls) (onto_first x ls) ++ ms) is ∙ ap (λ ks. onto_first x ks ++ ms) has.is)

some_line : (xs : List ℕ) → HasFirst (lines (xs ++ 10 ∷ []))
some_line [] = record { head = 10 ∷ []; rest = []; is = refl }
some_line (x ∷ xs) = onto_some x (lines (xs ++ 10 ∷ [])) (some_line xs)

-- a newline ends what stands before it
lines_line : (xs rest : List ℕ) → lines ((xs ++ 10 ∷ []) ++ rest) ≡ lines (xs ++ 10 ∷ []) ++ lines rest
lines_line [] rest = refl
lines_line (x ∷ xs) rest = ap (onto_lines x) (lines_line xs rest) ∙ onto-append x (lines (xs ++ 10 ∷ [])) (lines rest) (some_line xs)

module _ {I O : Type 0} (v : Levels I O) where
  -- so the lines of outputs, and of what follows them, are those of each
  lines_text_of : (os : List O) (more : List ℕ) → lines (text_of v os ++ more) ≡ lines (text_of v os) ++ lines more
  unfolding text_of
  lines_text_of [] more = refl
  lines_text_of (o ∷ os) more =
      let word = v.name (v.level_out o) ++ 32 ∷ v.print o in
      ap lines (append_assoc (line_of v o) (text_of v os) more) ∙ lines_line word (text_of v os ++ more)
      ∙ ap (λ ls. lines (word ++ 10 ∷ []) ++ ls) (lines_text_of os more)
      ∙ sym (append_assoc (lines (word ++ 10 ∷ [])) (lines (text_of v os)) (lines more))
      ∙ sym (ap (λ ls. ls ++ lines more) (lines_line word (text_of v os)))

  lines_text_out : (oss : List (List O)) (more : List ℕ) → lines (text_out v oss ++ more) ≡ lines (text_out v oss) ++ lines more
  unfolding text_out
  lines_text_out oss more = lines_text_of (joined oss) more

  -- and a level's own lines too
  pub own-append : (order : Order) (oss : List (List O)) (whole more : List ℕ) (l : ℕ) → whole ≡ text_out v oss ++ more → own order whole l ≡ own order (text_out v oss) l ++ own order more l
  own-append order oss whole more l is =
      ap (λ t. own order t l) is
      ∙ ap (λ ls. map content (filter (λ line. bytes_eq (name order l) (first_word line)) ls)) (lines_text_out oss more)
      ∙ ap (map content) (filter-append (λ line. bytes_eq (name order l) (first_word line)) (lines (text_out v oss)) (lines more))
      ∙ map_both (own_lines (name order l) (text_out v oss)) (own_lines (name order l) more)
    where
      map_both : (xs ys : List (List ℕ)) → map content (xs ++ ys) ≡ map content xs ++ map content ys
      map_both [] ys = refl
      map_both (x ∷ xs) ys = ap (λ ls. content x ∷ ls) (map_both xs ys)

  -- of no text there are none
  pub own_none : (order : Order) (text : List ℕ) (l : ℕ) → text ≡ [] → own order text l ≡ []
  own_none order text l none = ap (λ t. own order t l) none
