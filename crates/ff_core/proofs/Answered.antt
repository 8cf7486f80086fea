-- Replies: the request that is answered, and what is handed to its destination.
use Rattle.std.proofs.Common.{◌≡◌, ℕ, Option, Some, None, List, slice_get, refl, ap, subst, arith}
use Rattle.std.specs.Option.{ForSome}
use Rattle.std.specs.List.{AllByRecursion}
use Rattle.std.specs.FinMap as finmap
use Rattle.ff_tree.specs.Spelled.{IsWellSpelledDoc, IsWellSpelledExpr}
use Rattle.ff_tree.specs.declared.tree.Doc.{Doc}
use Rattle.ff_value.specs.Spelled.{IsWellSpelledResp}
use Rattle.ff_value.specs.declared.reply.CookieOp.{CookieOp}
use Rattle.ff_value.specs.declared.reply.Resp.{Resp}
use Rattle.ff_value.specs.declared.reply.Resp.TheVariants as resp
use Rattle.ff_machine.specs.declared.records.Pending.{Pending}
use Rattle.ff_machine.specs.Net.{asked}
use Rattle.ff_machine.specs.Stores.{Stores, take_answer, taken_out}
use Rattle.ff_machine.specs.Inputs.{slot_body}
use Rattle.ff_machine.specs.Alone.{IsPending}
use Rattle.ff_machine.specs.References.{DstRefers, made}
use Rattle.ff_machine.specs.Valid.{IsStores}
use Rattle.ff_laws.proofs.Asking.{PendingRefers, asked_each}
use Rattle.ff_laws.proofs.Inputs.{got_item, docs_spelled}
use Rattle.ff_laws.proofs.Starting.{null_spelled}

-- a request that was taken out of valid stores is valid, and refers to what was made
pub record IsTaken (t : Stores) (pending : Pending) : Type 0 where
  pub is : IsPending pending
  pub refers : DstRefers (made t) pending.dst

some_same : {X : Type 0} {x y : X} → Some x ≡ Some y → x ≡ y
some_same e = cc

pub taken_valid : (s t : Stores) (domain : List ℕ) (k : ℕ) (pending : Pending) → IsStores s → take_answer s domain k ≡ Some (pending, t) → IsTaken t pending
taken_valid s t domain k pending valid = by (slice_get (asked s.requests domain) k) refl where
  by : (o : Option Pending) → slice_get (asked s.requests domain) k ≡ o → taken_out s domain k o ≡ Some (pending, t) → IsTaken t pending
  by None is e = cc
  by (Some p) is e =
      let both = some_same e in
      let same : p ≡ pending = ap (λ (x : Pending × Stores). x.0) both in
      let refers : DstRefers (made s) pending.dst = subst (λ (q : Pending). DstRefers (made s) q.dst) same (got_item (PendingRefers (made s)) (asked s.requests domain) k p is (valid.refer.requests domain)) in
      record {
        is = subst IsPending same (got_item IsPending (asked s.requests domain) k p is (asked_each s.requests domain (finmap.get s.requests domain) refl valid.requests));
        refers = subst (λ (x : Pending × Stores). DstRefers (made x.1) pending.dst) both refers;
      }

-- the script for a slot is well spelled
pub body_is : (reply : Option Resp) → ForSome reply IsWellSpelledResp → IsWellSpelledExpr (slot_body reply)
body_is (Some (resp.Script cookies body)) is = let it = is _ refl in let deep = it.shallow in record { spelled = it.spelled.1; shallow = omega (arith, deep) }
body_is other is = null_spelled

-- and so are the documents for a window
pub docs_are : (reply : Option Resp) (cookies : List CookieOp) (docs : List Doc) → ForSome reply IsWellSpelledResp → reply ≡ Some (resp.Page cookies docs) → AllByRecursion IsWellSpelledDoc docs
docs_are reply cookies docs is e = let it = is _ e in let deep = it.shallow in docs_spelled docs it.spelled.1 (omega (arith, deep))
