use Rattle.std.proofs.Common.{T, All, List, map, sym, subst, ◌∙◌, arith}
use Rattle.std.proofs.lemmas.List.{length-map, take_all}
use Rattle.ff_machine.specs.Alone.{IsPage}
use Rattle.ff_records.specs.declared.records.PageRec.{PageRec}
use Rattle.ff_windows.specs.Recorded.{page_of}
use Rattle.ff_windows.proofs.Mapped.{mapped_more, mapped_at}
use Rattle.ff_windows.proofs.Recorded.{entries_same}
use Rattle.ff_windows.proofs.checking.are_pages.Goals as goal

pub returns-then-not-valid : goal.returns-then-not-valid
returns-then-not-valid c = (
  λ h. cc,
  λ are.
      let here = mapped_at (IsPage c.args.acts) page_of c.args.pages.now c.loop-page.page-index c.page-item.result c.loop-page-test.true c.page-item.is are.each in
      absurd (subst T (sym (c.in_ok-valid.ensures.1 here) ∙ c.if-not-valid.true) tt),
)

pub loop-page-preserved : goal.loop-page-preserved
loop-page-preserved c =
    mapped_more (IsPage c.args.acts) page_of c.args.pages.now c.loop-page.page-index c.page-item.result c.loop-page-test.true c.page-item.is c.loop-page.invariant (c.in_ok-valid.ensures.0 c.if-not-valid.false)

pub returns-then-pages : goal.returns-then-pages
returns-then-pages c =
    let all = subst (λ (ps : List PageRec). All (IsPage c.args.acts) (map page_of ps)) (take_all c.loop-page.page-index c.args.pages.now (omega (arith, c.loop-page-test.false))) c.loop-page.invariant in (
      λ h. record {
        each = all;
        few = omega (arith, c.if-pages.true, length-map c.args.pages.now page_of);
        few_entries = omega (arith, c.have_few_entries.ensures.0 h, entries_same c.args.pages.now);
      },
      λ are. c.have_few_entries.ensures.1 (omega (arith, are.few_entries, entries_same c.args.pages.now)),
    )
