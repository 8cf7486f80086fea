-- Something is found by its name, or nothing is.
use Rattle.std.proofs.Common.{◌≡◌, ◌≢◌, ℕ, ◌⊎◌, inl, inr, Option, Some, None, Result, Ok, Err, List, refl, sym, subst, ◌∙◌, arith}
use Rattle.std.specs.Result.{IfOk, IfErr, IsErrOf}
use Rattle.ff_io.specs.Port.{Told}
use Rattle.ff_io.specs.Shelf.{ShelfTold}
use Rattle.ff_io.specs.Fetched.{IsFrontOf, IsFetched, IsGiven}
use Rattle.ff_status.specs.declared.status.Status.{Status}
use Rattle.ff_status.specs.declared.status.Status.TheVariants.{ShelfFault, NoMemory}
use Rattle.ff_run.specs.Words.{dash}
use Rattle.ff_run.specs.Names.{FetchFailed, IsByGiven, IsKnown, IsLater, IsOutside, Kind, Names, NamesBad, Refuses, StandsFor}
use Rattle.ff_run.specs.Run.{Accepts, EndsBy, Outside, outside}

-- where the files are told, one front of a file is fetched
front_once : (file : Option (List ℕ)) (limit : ℕ) (a b : List ℕ) → IsFrontOf file limit a → IsFrontOf file limit b → a ≡ b
front_once None limit a b first second = absurd first
front_once (Some file) limit a b first second = first ∙ sym second

fetched_once : (shelf : ShelfTold) (name : List ℕ) (limit : ℕ) (a b : List ℕ) → name ≢ dash → IsKnown shelf name → IsFetched shelf.files name limit a → IsFetched shelf.files name limit b → a ≡ b
fetched_once shelf name limit a b no_dash (inl is_dash) first second = absurd (no_dash is_dash)
fetched_once shelf name limit a b no_dash (inr told) first second =
    front_once (told.0 name) limit a b (subst (λ f. IsFetched f name limit a) told.1 first) (subst (λ f. IsFetched f name limit b) told.1 second)

-- what is known by a shelf is known by another that tells the same files
pub known_from : (a b : ShelfTold) → a.files ≡ b.files → (name : List ℕ) → IsKnown a name → IsKnown b name
known_from a b same name (inl is_dash) = inl is_dash
known_from a b same name (inr told) = inr (told.0, sym same ∙ told.1)

-- a fetch that failed since then failed since before
pub failed_from : (before mid now : ShelfTold) → IsLater before mid → (name : List ℕ) → FetchFailed name mid now → FetchFailed name before now
failed_from before mid now later name rose = let less = later.faults name in omega (arith, less, rose)

module _ {X : Type 0} (kind : Kind X) where
  pub no_memory : (before now : ShelfTold) (name : List ℕ) → Refuses kind before now name NoMemory
  no_memory before now name = Refuses.no_memory

  pub no_file : (before now : ShelfTold) (name : List ℕ) → name ≢ dash → FetchFailed name before now → Refuses kind before now name ShelfFault
  no_file before now name no_dash failed = Refuses.no_file no_dash failed

  -- what is built in
  pub named_at_dash : (shelf : ShelfTold) (name : List ℕ) (x : X) → name ≡ dash → x ≡ kind.built_in → Names kind shelf name x
  named_at_dash shelf name x is_dash is = subst (Names kind shelf name) (sym is) (Names.at_dash name is_dash)

  pub given_at_dash : (shelf : ShelfTold) (name : List ℕ) (x : X) → name ≡ dash → x ≡ kind.built_in → IsByGiven kind shelf shelf name x
  given_at_dash shelf name x is_dash is = subst (IsByGiven kind shelf shelf name) (sym is) (IsByGiven.at_dash name is_dash refl)

  -- what a file gives, by the bytes that were given for it
  pub given_in_bytes : (before now : ShelfTold) (name bytes : List ℕ) → name ≢ dash → IsGiven name kind.most before.fetches now.fetches bytes → (result : Result X Status) → IfOk result (kind.gives bytes)
      → IfOk result (IsByGiven kind before now name)
  given_in_bytes before now name bytes no_dash given (Ok x) is = IsByGiven.in_bytes name bytes x no_dash given is
  given_in_bytes before now name bytes no_dash given (Err status) is = is

  pub accepts_at_dash : (shelf : ShelfTold) (name : List ℕ) (result : Result X Status) (x : X) → name ≡ dash → (result ≡ Ok kind.built_in) ⊎ (result ≡ Err NoMemory) → Names kind shelf name x → (result ≡ Ok x) ⊎ IsOutside result
  accepts_at_dash shelf name result x is_dash (inl e) (Names.at_dash other same) = inl e
  accepts_at_dash shelf name result x is_dash (inr e) (Names.at_dash other same) = inr (inr e)
  accepts_at_dash shelf name result x is_dash found (Names.in_file other bytes y no_dash fetched is) = absurd (no_dash is_dash)

  pub none_at_dash : (shelf : ShelfTold) (name : List ℕ) (result : Result X Status) (status : Status) → name ≡ dash → NamesBad kind shelf name status → (result ≡ Err status) ⊎ IsOutside result
  none_at_dash shelf name result status is_dash names = absurd (names.no_dash is_dash)

  -- what a file gives
  module _ (shelf : ShelfTold) (name bytes : List ℕ) (no_dash : name ≢ dash) (fetched : IsFetched shelf.files name kind.most bytes) (result : Result X Status) where
    pub named_in_file : IfOk result (kind.gives bytes) → IfOk result (Names kind shelf name)
    named_in_file = go result
      where
        go : (r : Result X Status) → IfOk r (kind.gives bytes) → IfOk r (Names kind shelf name)
        go (Ok x) is = Names.in_file name bytes x no_dash fetched is
        go (Err status) is = is

    pub refused_in_file : (now : ShelfTold) → IfErr result (λ status. (status ≡ NoMemory) ⊎ kind.is_bad bytes status) → IfErr result (Refuses kind shelf now name)
    refused_in_file now = go result
      where
        of : (status : Status) → (status ≡ NoMemory) ⊎ kind.is_bad bytes status → Refuses kind shelf now name status
        of status (inl none) = subst (Refuses kind shelf now name) (sym none) Refuses.no_memory
        of status (inr bad) = Refuses.bad_file status (record { bytes = bytes; no_dash = no_dash; fetched = fetched; bad = bad })

        go : (r : Result X Status) → IfErr r (λ status. (status ≡ NoMemory) ⊎ kind.is_bad bytes status) → IfErr r (Refuses kind shelf now name)
        go (Ok x) is = is
        go (Err status) is = of status is

    pub only_in_file : ((x : X) → kind.gives bytes x → (result ≡ Ok x) ⊎ (result ≡ Err NoMemory)) → (x : X) → IsKnown shelf name → Names kind shelf name x → (result ≡ Ok x) ⊎ IsOutside result
    only_in_file accepts x known (Names.at_dash other is_dash) = absurd (no_dash is_dash)
    only_in_file accepts x known (Names.in_file other more y named_so front is) =
        elim (accepts x (subst (λ bs. kind.gives bs x) (fetched_once shelf name kind.most more bytes no_dash known front fetched) is)) [
          | inl e ↦ inl e
          | inr e ↦ inr (inr e)
        ]

    pub exact_in_file : ((status : Status) → kind.is_bad bytes status → (result ≡ Err status) ⊎ (result ≡ Err NoMemory)) → (status : Status) → IsKnown shelf name → NamesBad kind shelf name status → (result ≡ Err status) ⊎ IsOutside result
    exact_in_file exact status known names =
        elim (exact status (subst (λ bs. kind.is_bad bs status) (fetched_once shelf name kind.most names.bytes bytes no_dash known names.fetched fetched) names.bad)) [
          | inl e ↦ inl e
          | inr e ↦ inr (inr e)
        ]

  -- What comes of an answer of a search for this name, which finds what the name stands for.
  module _ (before : Outside) (name : List ℕ) (result : Result X Status)
      (only : (x : X) → IsKnown before.shelf name → Names kind before.shelf name x → (result ≡ Ok x) ⊎ IsOutside result)
      (exact : (s : Status) → IsKnown before.shelf name → NamesBad kind before.shelf name s → (result ≡ Err s) ⊎ IsOutside result) where
    -- something was found
    module _ (x : X) (is : result ≡ Ok x) (named : Names kind before.shelf name x) where
      pub not_outside : IsOutside result → ⊥
      not_outside (inl e) = cc
      not_outside (inr e) = cc

      -- and nothing else
      found_once : (y : X) → IsKnown before.shelf name → Names kind before.shelf name y → y ≡ x
      found_once y known names = from (only y known names)
        where
          from : (result ≡ Ok y) ⊎ IsOutside result → y ≡ x
          from (inl e) = cc
          from (inr out) = absurd (not_outside out)

      pub stands : (holds : X → Type 0) → holds x → StandsFor kind before.shelf name holds
      stands holds held = record { found = x; named = named; only = found_once; held = held }

      -- so what its file gives isn't bad
      not_bad : (s : Status) → IsKnown before.shelf name → NamesBad kind before.shelf name s → ⊥
      not_bad s known names = elim (exact s known names) [
        | inl e ↦ cc
        | inr out ↦ not_outside out
      ]

      -- it ends by what was found
      pub ends_found : (now : Outside) (by : X → Status → Type 0) (s : Status) → by x s → EndsBy kind name before now by s
      ends_found now by s held = EndsBy.found s (stands (λ y. by y s) held)

      -- and goes on by it
      pub accepts_found : (now : Outside) (by : X → Type 0) (s : Status) → by x → Accepts kind name before now by s
      accepts_found now by s held = record { bad = λ ends known names fetched. absurd (not_bad ends known names); good = λ y known names fetched. subst by (sym (found_once y known names)) held }

    -- nothing was found
    module _ (now : Outside) (status : Status) (is : result ≡ Err status) (refuses : Refuses kind before.shelf now.shelf name status) (no_shelf : (bytes : List ℕ) → kind.is_bad bytes ShelfFault → ⊥) where
      failed_shelf : (s : Status) → Refuses kind before.shelf now.shelf name s → s ≡ ShelfFault → FetchFailed name before.shelf now.shelf
      failed_shelf s (Refuses.no_file no_dash failed) same = failed
      failed_shelf s (Refuses.bad_file t names) same = absurd (no_shelf names.bytes (subst (kind.is_bad names.bytes) same names.bad))
      failed_shelf s Refuses.no_memory same = absurd (cc)

      for_memory : ¬ FetchFailed name before.shelf now.shelf → IsOutside result → status ≡ NoMemory
      for_memory fetched (inl e) = absurd (fetched (failed_shelf status refuses (cc)))
      for_memory fetched (inr e) = cc

      -- it was bad, or there was no memory
      bad_refused : (s : Status) → IsKnown before.shelf name → NamesBad kind before.shelf name s → ¬ FetchFailed name before.shelf now.shelf → (status ≡ s) ⊎ (status ≡ NoMemory)
      bad_refused s known names fetched = elim (exact s known names) [
        | inl e ↦ inl (cc)
        | inr out ↦ inr (for_memory fetched out)
      ]

      -- where something is there, there was no memory
      good_refused : (x : X) → IsKnown before.shelf name → Names kind before.shelf name x → ¬ FetchFailed name before.shelf now.shelf → status ≡ NoMemory
      good_refused x known names fetched = elim (only x known names) [
        | inl e ↦ absurd (cc)
        | inr out ↦ for_memory fetched out
      ]

      pub accepts_refused : (by : X → Status → Type 0) → ((x : X) → by x NoMemory) → Accepts kind name before now (λ x. by x status) status
      accepts_refused by at_no_memory = record { bad = bad_refused; good = λ x known names fetched. subst (by x) (sym (good_refused x known names fetched)) (at_no_memory x) }

  -- ---- a shelf from which something else was fetched since

  names_from : (a b : ShelfTold) → a.files ≡ b.files → (name : List ℕ) (x : X) → Names kind a name x → Names kind b name x
  names_from a b same name _ (Names.at_dash other is_dash) = Names.at_dash name is_dash
  names_from a b same name x (Names.in_file other bytes y no_dash fetched is) = Names.in_file name bytes x no_dash (subst (λ files. IsFetched files name kind.most bytes) same fetched) is

  bad_from : (a b : ShelfTold) → a.files ≡ b.files → (name : List ℕ) (status : Status) → NamesBad kind a name status → NamesBad kind b name status
  bad_from a b same name status names = record { bytes = names.bytes; no_dash = names.no_dash; fetched = subst (λ files. IsFetched files name kind.most names.bytes) same names.fetched; bad = names.bad }

  -- what holds by a shelf after an earlier fetch holds by that before it
  module _ (before mid : ShelfTold) (later : IsLater before mid) (name : List ℕ) where
    stands_from : (holds : X → Type 0) → StandsFor kind mid name holds → StandsFor kind before name holds
    stands_from holds stand = record {
      found = stand.found;
      named = names_from mid before later.files name stand.found stand.named;
      only = λ other known names. stand.only other (known_from before mid (sym later.files) name known) (names_from before mid (sym later.files) name other names);
      held = stand.held;
    }

    refuses_from : (now : ShelfTold) (s : Status) → Refuses kind mid now name s → Refuses kind before now name s
    refuses_from now _ (Refuses.no_file no_dash failed) = Refuses.no_file no_dash (failed_from before mid now later name failed)
    refuses_from now _ (Refuses.bad_file s names) = Refuses.bad_file s (bad_from mid before later.files name s names)
    refuses_from now _ Refuses.no_memory = Refuses.no_memory

    module _ (port : Told) (turns : ℕ) (now : Outside) where
      pub ends_from : (by : X → Status → Type 0) (s : Status) → EndsBy kind name (outside mid port turns) now by s → EndsBy kind name (outside before port turns) now by s
      ends_from by _ (EndsBy.found s stand) = EndsBy.found s (stands_from (λ x. by x s) stand)
      ends_from by _ (EndsBy.refused s refuses untouched) = EndsBy.refused s (refuses_from now.shelf s refuses) (record { port = untouched.port; turns = untouched.turns })

      pub accepts_from : (by : X → Type 0) (s : Status) → Accepts kind name (outside mid port turns) now by s → Accepts kind name (outside before port turns) now by s
      accepts_from by s accepts = record {
        bad = λ ends known names fetched. accepts.bad ends (known_from before mid (sym later.files) name known) (bad_from before mid (sym later.files) name ends names) (λ failed. fetched (failed_from before mid now.shelf later name failed));
        good = λ x known names fetched. accepts.good x (known_from before mid (sym later.files) name known) (names_from before mid (sym later.files) name x names) (λ failed. fetched (failed_from before mid now.shelf later name failed));
      }

-- an answer that is found is no refusal
pub found_so : {T E : Type 0} (x : T) (e : E) → IsErrOf {T = T} (Ok x) e → ⊥
found_so x e is = let same = is in cc
