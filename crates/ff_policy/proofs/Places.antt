-- The first key that is no key.
use Rattle.std.proofs.Common.{◌≡◌, ℕ, ◌<◌, List, [], length, get_or, Bool, false, sym, ap, subst, ◌∙◌, ◌↔◌, IsTrue}
use Rattle.std.proofs.lemmas.Bool.{true≢false}
use Rattle.std.proofs.lemmas.List.{get_or_read}
use Rattle.ff_policy.specs.declared.fault.PolicyFault.TheVariants.{BadDomain}
use Rattle.ff_policy.specs.Assignment.{Key, key_at, IsKey}
use Rattle.ff_policy.specs.Reading.{IsKeyFault, no_key}

-- the fault of the first key that is no key
pub no_key_at : (keys : List Key) (place : ℕ) (one : Key) (text bytes : List ℕ) (is : Bool) → place < length keys → one ≡ get_or keys place one → ((k : ℕ) → k < place → IsKey (key_at keys k).key)
    → text ≡ one.key → bytes ≡ one.key → IsTrue is ↔ IsKey bytes → is ≡ false → IsKeyFault keys (BadDomain text)
no_key_at keys place one text bytes is within found before text_is bytes_is tells fails = no_key text (record {
  place = place;
  within = within;
  before = before;
  is = text_is ∙ ap (λ (k : Key). k.key) (get_or_read keys place one within found (record { key = []; level = 0 }));
  wrong = λ key. true≢false (sym (tells.1 (subst IsKey (text_is ∙ sym bytes_is) key)) ∙ fails);
})
