-- A machine with two levels that is small enough to run by hand, and what the definitions make of
-- it.
use Rattle.std.proofs.Common.{◌≡◌, ℕ, suc, ◌+◌, ◌-◌, ◌≢◌, ◌<◌, ◌≤◌, ◌⊎◌, inl, inr, zero, Bool, true, false, ◌==◌, nat_eq, nat_le, cond, Some, None, option_and_then, List, [], ◌∷◌, get_or, codes, refl, sym, ap, subst, ◌∙◌, arith, le-leb}
use Rattle.std.specs.Prelude.{⊤}
use Rattle.std.proofs.lemmas.Bool.{leb-true, eqb-true, eqb-false}
use Rattle.std.proofs.lemmas.List.Elements.{All-nil, All-cons}
use Rattle.ff_confinement.specs.Runs.{Machine, plain, after, work_plain}
use Rattle.ff_confinement.specs.Copies.{Levels, copy_entry, multi}
use Rattle.ff_confinement.specs.Text.{text_of, text_out, view, only}
use Rattle.ff_confinement.specs.Turns.{Reactor, settle, machine_of, KeepsOk, IsFuelled}
use Rattle.ff_confinement.specs.Sharing.{work}
use Rattle.ff_confinement.specs.Laws.{IsWord, IsLawful, IsNoninterfering}
use Rattle.ff_confinement.proofs.Laws.{noninterfering}
use Rattle.ff_confinement.proofs.Turns.{handle_quiet}

-- an output: its level and the number of opens before it
record Line : Type 0 where
  level : ℕ
  number : ℕ

-- An input is a level, and opens a window. The state is the number of windows. Each open is told at
-- level 0 and at level 1.
abbrev opens : Machine ℕ Line ℕ
opens = record {
  start = 0;
  handle = λ s i. record { outputs = record { level = 0; number = s } ∷ record { level = 1; number = s } ∷ []; after = s + 1; turns = 1 };
}

-- level 0 is called L and is below level 1, which is called H
abbrev two : Levels ℕ Line
two = record {
  count = 2;
  leq = nat_le;
  sees = λ l i. cond (nat_le i l) (Some i) None;
  level_out = λ o. o.level;
  name = λ l. cond (l == 0) (codes "L") (codes "H");
  print = λ o. (48 + o.number) ∷ [];
}

abbrev run_of : List ℕ → List ℕ
run_of is = text_out two (multi opens two is)

-- an open that both levels see is told at L and then at H
open_for_all : run_of (0 ∷ []) ≡ codes "L 0\nH 0\n"
unfolding text_out text_of multi copy_entry plain
open_for_all = refl

-- an open that H alone sees is told at H alone
open_for_high : run_of (1 ∷ []) ≡ codes "H 0\n"
unfolding text_out text_of multi copy_entry plain
open_for_high = refl

-- after it L counts from 0, and H goes on to 1
open_for_high_then_all : run_of (1 ∷ 0 ∷ []) ≡ codes "H 0\nL 0\nH 1\n"
unfolding text_out text_of multi copy_entry plain
open_for_high_then_all = refl

-- run alone, the machine tells at L how many windows H opened
the_plain_run_leaks : text_out two (plain opens (1 ∷ 0 ∷ [])) ≡ codes "L 0\nH 0\nL 1\nH 1\n"
unfolding text_out text_of plain
the_plain_run_leaks = refl

-- so L would see what H did, though L sees the same in both runs
the_plain_view_without : view two 0 (text_out two (plain opens (0 ∷ []))) ≡ codes "L 0\n"
unfolding text_out text_of plain view
the_plain_view_without = refl

the_plain_view_with : view two 0 (text_out two (plain opens (1 ∷ 0 ∷ []))) ≡ codes "L 0\nL 1\n"
unfolding text_out text_of plain view
the_plain_view_with = refl

-- L's view is its own lines, and H's is all of them
view_of_low : view two 0 (run_of (1 ∷ 0 ∷ [])) ≡ codes "L 0\n"
unfolding text_out text_of multi copy_entry plain view
view_of_low = refl

view_of_high : view two 1 (run_of (1 ∷ 0 ∷ [])) ≡ codes "H 0\nL 0\nH 1\n"
unfolding text_out text_of multi copy_entry plain view
view_of_high = refl

-- and H's own lines leave out those of L
only_high : only two 1 (run_of (1 ∷ 0 ∷ [])) ≡ codes "H 0\nH 1\n"
unfolding text_out text_of multi copy_entry plain only
only_high = refl

-- a line is named by its first word as a whole, and bytes after the last newline are a line
only_by_whole_words : only two 0 (codes "LH 1\nL\n L 2\nL 3") ≡ codes "L\nL 3"
unfolding only
only_by_whole_words = refl

-- while both levels see the same, one copy works for both; from the first input on that H alone
-- sees, each has its own
shared_work : work opens two nat_eq (0 ∷ 0 ∷ []) ≡ 2
unfolding work after
shared_work = refl

split_work : work opens two nat_eq (0 ∷ 1 ∷ 0 ∷ []) ≡ 4
unfolding work after
split_work = refl

work_alone : work_plain opens (0 ∷ 1 ∷ 0 ∷ []) ≡ 3
unfolding work_plain
work_alone = refl

-- A reactor that counts down, and tells each number.
abbrev countdown : Reactor ℕ ℕ ℕ
countdown = record { start = 0; begin = λ s i. record { outputs = []; after = i }; turn = λ s. record { outputs = s ∷ []; after = s - 1 }; quiet = λ s. s == 0 }

-- it settles as soon as it is quiet, however many turns are left, and stops where none are left
settles : settle countdown 100000 3 ≡ record { outputs = 3 ∷ 2 ∷ 1 ∷ []; after = 0; turns = 3 }
settles = refl

settles_within : settle countdown 2 3 ≡ record { outputs = 3 ∷ 2 ∷ []; after = 1; turns = 2 }
settles_within = refl

-- each of its turns spends one of the numbers that are left, so it is quiet after at most one turn
-- more than it was given
counts_ok : KeepsOk countdown (λ i. i ≤ 5) (λ s. ⊤) (λ o. ⊤)
counts_ok = record {
  start_ok = tt;
  begin_ok = λ s i at here. tt;
  begin_outputs = λ s i at here. All-nil (λ o. ⊤);
  turn_ok = λ s at busy. tt;
  turn_outputs = λ s at busy. All-cons (λ o. ⊤) s [] tt (All-nil (λ o. ⊤));
}

counts_down : IsFuelled countdown (λ s. s) 5 (λ i. i ≤ 5) (λ s. ⊤)
counts_down = record { brings = λ s i at here. here; spends = λ s at busy. inl (spent s busy) }
  where
    spent : (s : ℕ) → (s == 0) ≡ false → s - 1 < s
    spent s busy = let some : s ≢ 0 = eqb-false s 0 busy in omega arith

counts_to_the_end : (i : ℕ) → i ≤ 5 → ((machine_of countdown 6).handle 0 i).after ≡ 0
counts_to_the_end i few = eqb-true ((machine_of countdown 6).handle 0 i).after 0 (handle_quiet counts_ok counts_down 0 i tt few)

-- The two levels fit the machine, so the laws speak of it. Inputs and outputs are those of the two
-- levels.
at_two : (l : ℕ) → l < 2 → (l ≡ 0) ⊎ (l ≡ 1)
at_two zero lt = inl refl
at_two (suc zero) lt = inr refl
at_two (suc (suc l)) lt = absurd (omega arith)

word_of : (l : ℕ) → l < 2 → IsWord (two.name l)
word_of l lt = from (at_two l lt)
  where
    from : (l ≡ 0) ⊎ (l ≡ 1) → IsWord (two.name l)
    from (inl e) = subst (λ n. IsWord (two.name n)) (sym e) (All-cons (λ b. (b ≢ 32) × (b ≢ 10)) 76 [] ((λ same. omega arith), (λ same. omega arith)) (All-nil (λ b. (b ≢ 32) × (b ≢ 10))))
    from (inr e) = subst (λ n. IsWord (two.name n)) (sym e) (All-cons (λ b. (b ≢ 32) × (b ≢ 10)) 72 [] ((λ same. omega arith), (λ same. omega arith)) (All-nil (λ b. (b ≢ 32) × (b ≢ 10))))

first_byte : List ℕ → ℕ
first_byte bytes = get_or bytes 0 0

names_apart : (k l : ℕ) → k < 2 → l < 2 → two.name k ≡ two.name l → k ≡ l
unfolding first_byte
names_apart zero zero at_k at_l e = refl
names_apart zero (suc zero) at_k at_l e = let same : ◌≡◌ {A = ℕ} 76 72 = ap first_byte e in absurd (omega arith)
names_apart (suc zero) zero at_k at_l e = let same : ◌≡◌ {A = ℕ} 72 76 = ap first_byte e in absurd (omega arith)
names_apart (suc zero) (suc zero) at_k at_l e = refl
names_apart (suc (suc k)) l at_k at_l e = absurd (omega arith)
names_apart k (suc (suc l)) at_k at_l e = absurd (omega arith)

lower_sees : (k l i : ℕ) → nat_le k l ≡ true → two.sees k i ≡ option_and_then (two.sees k) (two.sees l i)
lower_sees k l i low = from (nat_le i k) refl
  where
    low_enough : i ≤ k → nat_le i l ≡ true
    low_enough within = le-leb i l (omega (arith, leb-true k l low))

    unseen : (b : Bool) → nat_le i k ≡ false → None ≡ option_and_then (two.sees k) (cond b (Some i) None)
    unseen true high = ap (λ b. cond b (Some i) None) (sym high)
    unseen false high = refl

    from : (b : Bool) → nat_le i k ≡ b → cond b (Some i) None ≡ option_and_then (two.sees k) (two.sees l i)
    from true within = ap (λ b. cond b (Some i) None) (sym within) ∙ ap (λ b. option_and_then (two.sees k) (cond b (Some i) None)) (sym (low_enough (leb-true i k within)))
    from false high = unseen (nat_le i l) high

abbrev IsLevel : ℕ → Type 0
IsLevel i = i < 2

abbrev HasLevel : Line → Type 0
HasLevel o = o.level < 2

sees_itself : (b : Bool) (i x : ℕ) → cond b (Some i) None ≡ Some x → i ≡ x
sees_itself true i x e = grind arith
sees_itself false i x e = grind arith

opens_lawful : IsLawful opens two IsLevel (λ s. ⊤) HasLevel
opens_lawful = record {
  start_ok = tt;
  handle_ok = λ s i at here. tt;
  outputs_ok = λ s i at here. All-cons HasLevel (record { level = 0; number = s }) (record { level = 1; number = s } ∷ []) (omega arith) (All-cons HasLevel (record { level = 1; number = s }) [] (omega arith) (All-nil HasLevel));
  sees_ok = λ l i x here e. subst IsLevel (sees_itself (nat_le i l) i x e) here;
  sees_below = λ k l i at_k at_l here low. lower_sees k l i low;
  level_ok = λ o ok. ok;
  print_ok = λ o ok. All-cons (λ b. b ≢ 10) (48 + o.number) [] (λ e. omega arith) (All-nil (λ b. b ≢ 10));
  name_ok = word_of;
  names_differ = names_apart;
}

opens_noninterfering : IsNoninterfering opens two IsLevel
opens_noninterfering = noninterfering opens_lawful
