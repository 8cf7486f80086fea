-- The front of a file, piece by piece.
use Rattle.std.proofs.Common.{◌≡◌, ℕ, ◌+◌, ◌<◌, ◌≤◌, inl, inr, Bool, true, false, ◌||◌, Option, Some, None, Result, Ok, List, [], ◌∷◌, ◌++◌, take, take_all, length, refl, sym, ap, ◌∙◌, arith, length-append, append-nil, append_assoc, add-zero}
use Rattle.std.specs.Option.{option_map}
use Rattle.std.specs.Bool.{⊤}
use Rattle.std.proofs.lemmas.Bool.{false≢true}
use Rattle.std.proofs.Math.Seq.{take-add}
use Rattle.ff_io.specs.Shelf.{Fetch, Files, Notes}
use Rattle.ff_io.specs.Fetched.{IsFrontOf, IsFetched, IsPartOf, IsPieceOf, IsFetchedPiece, AreInTurn, AreFetches, IsGiven, IsFetchMade, all_came, bytes_of, has_last, is_last}

-- what was got of the file so far
abbrev pub SoFarOf : Option (List ℕ) → List ℕ → Bool → Type 0
SoFarOf None bytes ended = (bytes ≡ []) × (ended ≡ false)
SoFarOf (Some file) bytes ended = (bytes ≡ take (length bytes) file) × (ended ≡ true → length file ≤ length bytes)

abbrev pub SoFar : Option Files → List ℕ → List ℕ → Bool → Type 0
SoFar None name bytes ended = ⊤
SoFar (Some files) name bytes ended = SoFarOf (files name) bytes ended

pub record IsFetching (files : Option Files) (name : List ℕ) (limit : ℕ) (bytes : List ℕ) (ended : Bool) : Type 0 where
  pub so_far : SoFar files name bytes ended
  pub within : length bytes ≤ limit

pub fetching_start : (files : Option Files) (name : List ℕ) (limit : ℕ) (bytes : List ℕ) (ended : Bool) → bytes ≡ [] → ended ≡ false → IsFetching files name limit bytes ended
fetching_start files name limit bytes ended none open_yet = record {
  so_far = start files;
  within = omega (arith, ap length none);
}
  where
    start : (files : Option Files) → SoFar files name bytes ended
    start None = tt
    start (Some told) = start_of (told name)
      where
        start_of : (file : Option (List ℕ)) → SoFarOf file bytes ended
        start_of None = (none, open_yet)
        start_of (Some file) = (none ∙ ap (λ n. take n file) (sym (ap length none)), λ e. absurd (false≢true (sym open_yet ∙ e)))

-- a further piece
pub fetching_more : (files : Option Files) (name : List ℕ) (limit size : ℕ) (bytes now : List ℕ) (ended : Bool) → IsFetching files name limit bytes false → size + length bytes ≤ limit
    → IsFetchedPiece files name bytes now size ended → IsFetching files name limit now ended
fetching_more files name limit size bytes now ended fetching room more = record {
  so_far = go files fetching.so_far more.part;
  within = omega (arith, ap length more.kept, length-append bytes more.piece, more.within);
}
  where
    go : (files : Option Files) → SoFar files name bytes false → IsPieceOf files name (length bytes) more.piece → SoFar files name now ended
    go None so_far part = tt
    go (Some told) so_far part = go_of (told name) so_far part
      where
        go_of : (file : Option (List ℕ)) → SoFarOf file bytes false → IsPartOf file (length bytes) more.piece → SoFarOf file now ended
        go_of None so_far part = absurd part
        go_of (Some file) so_far part =
            let long : length now ≡ length bytes + length more.piece = ap length more.kept ∙ length-append bytes more.piece in
            let whole : now ≡ take (length now) file =
            more.kept ∙ ap (λ xs. xs ++ more.piece) so_far.0 ∙ ap (λ xs. take (length bytes) file ++ xs) part.there ∙ sym (take-add (length bytes) (length more.piece) file) ∙ ap (λ n. take n file) (sym long) in
            (whole, λ e. omega (arith, part.some (more.none e), long))

-- no byte is left, or no more is wanted
pub fetched_all : (files : Option Files) (name : List ℕ) (limit : ℕ) (bytes : List ℕ) (ended : Bool) → 0 < limit → IsFetching files name limit bytes ended → (ended ≡ false → limit ≤ length bytes) → IsFetched files name limit bytes
fetched_all None name limit bytes ended some fetching full = tt
fetched_all (Some told) name limit bytes ended some fetching full = go_of (told name) fetching.so_far
  where
    within : length bytes ≤ limit
    within = fetching.within

    go_of : (file : Option (List ℕ)) → SoFarOf file bytes ended → IsFrontOf file limit bytes
    go_of None so_far = let none : length bytes ≡ 0 = ap length so_far.0 in let over : limit ≤ length bytes = full so_far.1 in absurd (omega arith)
    go_of (Some file) so_far = so_far.0 ∙ cut ended refl
      where
        cut : (b : Bool) → ended ≡ b → take (length bytes) file ≡ take limit file
        cut true e = take_all (length bytes) file (so_far.1 e) ∙ sym (take_all limit file (omega (arith, so_far.1 e)))
        cut false e = let over : limit ≤ length bytes = full e in ap (λ n. take n file) (omega arith)

-- ---- which fetches are made

notes_none : (log : Option (List Fetch)) → Notes log log []
notes_none None = refl
notes_none (Some fetches) = ap Some (sym (append-nil fetches))

notes_more : (before mid now : Option (List Fetch)) (first second : List Fetch) → Notes before mid first → Notes mid now second → Notes before now (first ++ second)
notes_more None mid now first second one two = two ∙ ap (option_map (λ log. log ++ second)) one
notes_more (Some log) mid now first second one two = two ∙ ap (option_map (λ log. log ++ second)) one ∙ ap Some (append_assoc log first second)

or_false : (a b : Bool) → (a || b) ≡ false → (a ≡ false) × (b ≡ false)
or_false true b e = absurd (false≢true (sym e))
or_false false b e = (refl, e)

or_with_false : (b : Bool) → (b || false) ≡ b
or_with_false true = refl
or_with_false false = refl

-- The fetches so far, which gave these bytes.
pub record IsAsking (name : List ℕ) (limit : ℕ) (before now : Option (List Fetch)) (bytes : List ℕ) (ended : Bool) : Type 0 where
  pub fetches : List Fetch
  pub added : Notes before now fetches
  pub in_turn : AreInTurn name limit 0 fetches
  pub came : bytes ≡ all_came fetches
  pub closed : has_last fetches ≡ ended

-- none yet
pub asking_start : (name : List ℕ) (limit : ℕ) (log : Option (List Fetch)) (bytes : List ℕ) (ended : Bool) → bytes ≡ [] → ended ≡ false → IsAsking name limit log log bytes ended
asking_start name limit log bytes ended none open_yet = record {
  fetches = [];
  added = notes_none log;
  in_turn = tt;
  came = none;
  closed = sym open_yet;
}

-- a further fetch where the one before it gave some byte
in_turn-push : (name : List ℕ) (limit place : ℕ) (fetches : List Fetch) (fetch : Fetch) → AreInTurn name limit place fetches → has_last fetches ≡ false → fetch.name ≡ name
    → fetch.place ≡ place + length (all_came fetches) → fetch.place < limit → AreInTurn name limit place (fetches ++ fetch ∷ [])
in_turn-push name limit place [] fetch turn open_yet named at lt = (named, at ∙ add-zero place, omega (arith, at, lt), λ e. refl, tt)
in_turn-push name limit place (first ∷ more) fetch (is, from, below, last, turn) open_yet named at lt =
    let open_first = or_false (is_last first.came) (has_last more) open_yet in (
      is,
      from,
      below,
      λ e. absurd (false≢true (sym open_first.0 ∙ e)),
      in_turn-push name limit (place + length (bytes_of first.came)) more fetch turn open_first.1 named
          (at ∙ ap (λ n. place + n) (length-append (bytes_of first.came) (all_came more)) ∙ (omega arith)) lt,
    )

all_came-push : (fetches : List Fetch) (fetch : Fetch) → all_came (fetches ++ fetch ∷ []) ≡ all_came fetches ++ bytes_of fetch.came
all_came-push [] fetch = append-nil (bytes_of fetch.came)
all_came-push (first ∷ more) fetch = ap (λ bytes. bytes_of first.came ++ bytes) (all_came-push more fetch) ∙ sym (append_assoc (bytes_of first.came) (all_came more) (bytes_of fetch.came))

has_last-push : (fetches : List Fetch) (fetch : Fetch) → has_last fetches ≡ false → has_last (fetches ++ fetch ∷ []) ≡ is_last fetch.came
has_last-push [] fetch e = or_with_false (is_last fetch.came)
has_last-push (first ∷ more) fetch e =
    let parts = or_false (is_last first.came) (has_last more) e in
    ap (λ b. b || has_last (more ++ fetch ∷ [])) parts.0 ∙ has_last-push more fetch parts.1

-- a further fetch is answered
pub asking_more : {E : Type 0} (name : List ℕ) (limit : ℕ) (before mid now : Option (List Fetch)) (bytes kept : List ℕ) (ended : Bool) → IsAsking name limit before mid bytes false
    → length bytes < limit → IsFetchMade {E = E} name mid now bytes kept (Ok ended) → IsAsking name limit before now kept ended
asking_more name limit before mid now bytes kept ended at lt made = record {
  fetches = at.fetches ++ made.fetch ∷ [];
  added = notes_more before mid now at.fetches (made.fetch ∷ []) at.added made.added;
  in_turn = in_turn-push name limit 0 at.fetches made.fetch at.in_turn at.closed made.named (made.place ∙ ap length at.came ∙ (omega arith)) (let e = made.place in omega (arith, e, lt));
  came = made.joined.0 ∙ ap (λ bs. bs ++ bytes_of made.fetch.came) at.came ∙ sym (all_came-push at.fetches made.fetch);
  closed = has_last-push at.fetches made.fetch at.closed ∙ sym made.joined.1;
}

-- whatever a further fetch answers
pub asked_more : {E : Type 0} (name : List ℕ) (limit : ℕ) (before mid now : Option (List Fetch)) (bytes kept : List ℕ) (answer : Result Bool E) → IsAsking name limit before mid bytes false
    → length bytes < limit → IsFetchMade name mid now bytes kept answer → AreFetches name limit before now
asked_more name limit before mid now bytes kept answer at lt made = record {
  fetches = at.fetches ++ made.fetch ∷ [];
  added = notes_more before mid now at.fetches (made.fetch ∷ []) at.added made.added;
  in_turn = in_turn-push name limit 0 at.fetches made.fetch at.in_turn at.closed made.named (made.place ∙ ap length at.came ∙ (omega arith)) (let e = made.place in omega (arith, e, lt));
}

pub asked_none : (name : List ℕ) (limit : ℕ) (log : Option (List Fetch)) → AreFetches name limit log log
asked_none name limit log = record { fetches = []; added = notes_none log; in_turn = tt }

pub asked_all : (name : List ℕ) (limit : ℕ) (before now : Option (List Fetch)) (bytes : List ℕ) (ended : Bool) → IsAsking name limit before now bytes ended → AreFetches name limit before now
asked_all name limit before now bytes ended at = record { fetches = at.fetches; added = at.added; in_turn = at.in_turn }

-- no byte is left, or no more is wanted
pub given_all : (name : List ℕ) (limit : ℕ) (before now : Option (List Fetch)) (bytes : List ℕ) (ended : Bool) → IsAsking name limit before now bytes ended → (ended ≡ false → limit ≤ length bytes)
    → IsGiven name limit before now bytes
given_all name limit before now bytes true at full = record { fetches = at.fetches; added = at.added; in_turn = at.in_turn; came = at.came; whole = inr at.closed }
given_all name limit before now bytes false at full = record { fetches = at.fetches; added = at.added; in_turn = at.in_turn; came = at.came; whole = inl (full refl) }
