use Rattle.std.proofs.Common.{◌≡◌, ◌⊎◌, inl, inr, ap, sym, subst}
use Rattle.std.specs.Result.{IfOk, IfErr}
use Rattle.ff_io.specs.Fetched.{IsFetched, IsGiven}
use Rattle.ff_status.specs.declared.status.Status.TheVariants.{NoMemory}
use Rattle.ff_io.specs.declared.fetch.FetchFail.{FetchFail}
use Rattle.ff_run.proofs.Finding.{found_so, given_in_bytes, named_in_file, refused_in_file, only_in_file, exact_in_file, no_file}
use Rattle.ff_run.proofs.named.fetch.Goals as goal

pub returns-in-Ok-clause-named : goal.returns-in-Ok-clause-named
returns-in-Ok-clause-named g c =
    let counted = subst (λ n. IsFetched (g.S.Shelf.files c.args.shelf.now) c.args.name.now n c.in-Ok.bytes.items) c.most.ensures.value c.in-Ok.ensures.bytes in
    let fetched = subst (λ files. IsFetched files c.args.name.now (g.N.Named.kind c.args.what.now).most c.in-Ok.bytes.items) (sym (ap (λ s. s.files) (g.met.S.Shelf.tells c.args.shelf.now))) counted in
    named_in_file (g.N.Named.kind c.args.what.now) (g.S.Shelf.told c.args.shelf.now) c.args.name.now c.in-Ok.bytes.items c.requires fetched c.read.result
    (subst (λ bs. IfOk c.read.result ((g.N.Named.kind c.args.what.now).gives bs)) c.as_slice.ensures.value c.read.ensures.found)

pub returns-in-Ok-clause-given : goal.returns-in-Ok-clause-given
returns-in-Ok-clause-given g c =
    let old = g.S.Shelf.told c.args.shelf.now in
    let now = g.S.Shelf.told c.fetch_front.new.shelf in
    let counted = subst (λ n. IsGiven c.args.name.now n (g.S.Shelf.fetches c.args.shelf.now) (g.S.Shelf.fetches c.fetch_front.new.shelf) c.in-Ok.bytes.items) c.most.ensures.value c.in-Ok.ensures.given in
    let from = subst (λ log. IsGiven c.args.name.now (g.N.Named.kind c.args.what.now).most log (g.S.Shelf.fetches c.fetch_front.new.shelf) c.in-Ok.bytes.items) (sym (ap (λ s. s.fetches) (g.met.S.Shelf.tells c.args.shelf.now))) counted in
    let given = subst (λ log. IsGiven c.args.name.now (g.N.Named.kind c.args.what.now).most old.fetches log c.in-Ok.bytes.items) (sym (ap (λ s. s.fetches) (g.met.S.Shelf.tells c.fetch_front.new.shelf))) from in
    given_in_bytes (g.N.Named.kind c.args.what.now) old now c.args.name.now c.in-Ok.bytes.items c.requires given c.read.result
    (subst (λ bs. IfOk c.read.result ((g.N.Named.kind c.args.what.now).gives bs)) c.as_slice.ensures.value c.read.ensures.found)

pub returns-in-Ok-clause-refused : goal.returns-in-Ok-clause-refused
returns-in-Ok-clause-refused g c =
    let counted = subst (λ n. IsFetched (g.S.Shelf.files c.args.shelf.now) c.args.name.now n c.in-Ok.bytes.items) c.most.ensures.value c.in-Ok.ensures.bytes in
    let fetched = subst (λ files. IsFetched files c.args.name.now (g.N.Named.kind c.args.what.now).most c.in-Ok.bytes.items) (sym (ap (λ s. s.files) (g.met.S.Shelf.tells c.args.shelf.now))) counted in
    refused_in_file (g.N.Named.kind c.args.what.now) (g.S.Shelf.told c.args.shelf.now) c.args.name.now c.in-Ok.bytes.items c.requires fetched c.read.result (g.S.Shelf.told c.fetch_front.new.shelf)
    (subst (λ bs. IfErr c.read.result (λ status. (status ≡ NoMemory) ⊎ (g.N.Named.kind c.args.what.now).is_bad bs status)) c.as_slice.ensures.value c.read.ensures.bad)

pub returns-in-Ok-clause-only : goal.returns-in-Ok-clause-only
returns-in-Ok-clause-only g c =
    let counted = subst (λ n. IsFetched (g.S.Shelf.files c.args.shelf.now) c.args.name.now n c.in-Ok.bytes.items) c.most.ensures.value c.in-Ok.ensures.bytes in
    let fetched = subst (λ files. IsFetched files c.args.name.now (g.N.Named.kind c.args.what.now).most c.in-Ok.bytes.items) (sym (ap (λ s. s.files) (g.met.S.Shelf.tells c.args.shelf.now))) counted in
    only_in_file (g.N.Named.kind c.args.what.now) (g.S.Shelf.told c.args.shelf.now) c.args.name.now c.in-Ok.bytes.items c.requires fetched c.read.result
    (λ x is. c.read.ensures.only x (subst (λ bs. (g.N.Named.kind c.args.what.now).gives bs x) (sym c.as_slice.ensures.value) is))

pub returns-in-Ok-clause-exact : goal.returns-in-Ok-clause-exact
returns-in-Ok-clause-exact g c =
    let counted = subst (λ n. IsFetched (g.S.Shelf.files c.args.shelf.now) c.args.name.now n c.in-Ok.bytes.items) c.most.ensures.value c.in-Ok.ensures.bytes in
    let fetched = subst (λ files. IsFetched files c.args.name.now (g.N.Named.kind c.args.what.now).most c.in-Ok.bytes.items) (sym (ap (λ s. s.files) (g.met.S.Shelf.tells c.args.shelf.now))) counted in
    exact_in_file (g.N.Named.kind c.args.what.now) (g.S.Shelf.told c.args.shelf.now) c.args.name.now c.in-Ok.bytes.items c.requires fetched c.read.result
    (λ status is. c.read.ensures.exact status (subst (λ bs. (g.N.Named.kind c.args.what.now).is_bad bs status) (sym c.as_slice.ensures.value) is))

pub returns-in-Err-Fetch-clause-refused : goal.returns-in-Err-Fetch-clause-refused
returns-in-Err-Fetch-clause-refused g c =
    no_file (g.N.Named.kind c.args.what.now) _ _ c.args.name.now c.requires
    (rw (g.met.S.Shelf.tells c.args.shelf.now, g.met.S.Shelf.tells c.fetch_front.new.shelf) (c.fetch_front.ensures.cause (rw c.in-Err-Fetch.field-0-is at c.in-Err-Fetch.is)))

pub returns-in-Ok-clause-fetched : goal.returns-in-Ok-clause-fetched
returns-in-Ok-clause-fetched g c =
    rw (g.met.S.Shelf.tells c.args.shelf.now, g.met.S.Shelf.tells c.fetch_front.new.shelf)
    (elim c.in-Ok.ensures.unfailed [
      | inl none ↦ absurd (found_so c.in-Ok.bytes FetchFail.Fetch none)
      | inr same ↦ inr same
    ])

pub returns-in-Ok-clause-later : goal.returns-in-Ok-clause-later
returns-in-Ok-clause-later g c =
    rw (g.met.S.Shelf.tells c.args.shelf.now, g.met.S.Shelf.tells c.fetch_front.new.shelf) (record { files = c.fetch_front.ensures.files; faults = c.fetch_front.ensures.later })

pub returns-in-Err-Fetch-clause-later : goal.returns-in-Err-Fetch-clause-later
returns-in-Err-Fetch-clause-later g c =
    rw (g.met.S.Shelf.tells c.args.shelf.now, g.met.S.Shelf.tells c.fetch_front.new.shelf) (record { files = c.fetch_front.ensures.files; faults = c.fetch_front.ensures.later })

pub returns-in-Err-NoMemory-clause-fetched : goal.returns-in-Err-NoMemory-clause-fetched
returns-in-Err-NoMemory-clause-fetched g c =
    let other = c.in-Err-NoMemory.field-0-is in
    rw (g.met.S.Shelf.tells c.args.shelf.now, g.met.S.Shelf.tells c.fetch_front.new.shelf)
    (elim c.in-Err-NoMemory.ensures.unfailed [
      | inl fetch ↦ absurd (let same = fetch in cc)
      | inr same ↦ inr same
    ])

pub returns-in-Err-NoMemory-clause-later : goal.returns-in-Err-NoMemory-clause-later
returns-in-Err-NoMemory-clause-later g c =
    rw (g.met.S.Shelf.tells c.args.shelf.now, g.met.S.Shelf.tells c.fetch_front.new.shelf) (record { files = c.fetch_front.ensures.files; faults = c.fetch_front.ensures.later })
