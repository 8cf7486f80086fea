-- What reading a word as an address or a domain answers.
use Rattle.std.proofs.Common.{◌≡◌, ◌≢◌, ◌⊎◌, ◌↔◌, ℕ, Bool, true, false, List, Option, Some, None, Result, Ok, Err, cond, inl, inr, refl, ap, subst}
use Rattle.std.specs.Prelude.{MatchOption}
use Rattle.ff_name.specs.Address.{Spells}
use Rattle.ff_name.specs.Spelling.{IsDomain}
use Rattle.ff_name.specs.declared.urls.Url.{Url}
use Rattle.ff_name.specs.declared.urls.UrlFault.{UrlFault}
use Rattle.ff_name.specs.declared.urls.UrlFault.TheVariants as url_fault
use Rattle.ff_name.specs.Reading.{is_domain, read_url}
use Rattle.ff_name.proofs.Reading.{read_url_found, read_url_spelled, is_domain-from, IsDomain-from}
use Rattle.ff_trace.specs.Parts.{domain_of, or_fault}
use Rattle.ff_trace.specs.declared.fault.LineFault.{LineFault}

pub address_read : (which : LineFault) (text : List ℕ) (url : Url) → Spells text url → or_fault which (read_url text) ≡ Ok url
address_read which text url spells = ap (or_fault which) (read_url_found text url spells)

abbrev Only : List ℕ → Result Url UrlFault → Type 0
Only text answer = (url : Url) → Spells text url → (answer ≡ Ok url) ⊎ (answer ≡ Err url_fault.NoMemory)

not_read : (fault : UrlFault) (url : Url) (answer : Result Url UrlFault) → answer ≡ Err fault → answer ≡ Ok url → ⊥
not_read fault url answer e f = cc

same_fault : (fault : UrlFault) (answer : Result Url UrlFault) → answer ≡ Err fault → answer ≡ Err url_fault.NoMemory → fault ≡ url_fault.NoMemory
same_fault fault answer e f = cc

-- bytes that are refused for another cause than memory are no address
pub address_refused : (which : LineFault) (text : List ℕ) (answer : Result Url UrlFault) (fault : UrlFault) → answer ≡ Err fault → fault ≢ url_fault.NoMemory → Only text answer → or_fault which (read_url text) ≡ Err which
address_refused which text answer fault e other only = go (read_url text) refl where
  go : (found : Option Url) → read_url text ≡ found → or_fault which found ≡ Err which
  go (Some url) is = elim (only url (read_url_spelled text url is)) [
    | inl ok ↦ absurd (not_read fault url answer e ok)
    | inr memory ↦ absurd (other (same_fault fault answer e memory))
  ]
  go None is = refl

pub domain_read : (which : LineFault) (text domain : List ℕ) → IsDomain text → domain ≡ text → or_fault which (domain_of text) ≡ Ok domain
domain_read which text domain h e = let test : is_domain text ≡ true = is_domain-from text h in rw (e, test) refl

pub domain_refused : (which : LineFault) (text : List ℕ) → (IsDomain text → ⊥) → or_fault which (domain_of text) ≡ Err which
domain_refused which text isnt = go (is_domain text) refl where
  go : (test : Bool) → is_domain text ≡ test → or_fault which (cond test (Some text) None) ≡ Err which
  go true e = absurd (isnt (IsDomain-from text e))
  go false e = refl

-- the answer of a call that tells whether bytes are a domain
abbrev Tells : List ℕ → Option (List ℕ) → Type 0
Tells text answer = MatchOption answer (IsDomain text → ⊥) (λ _. IsDomain text)

abbrev Gives : List ℕ → Option (List ℕ) → Type 0
Gives text answer = MatchOption answer (IsDomain text → ⊥) (λ domain. domain ≡ text)

pub domain_some : (which : LineFault) (text domain : List ℕ) (answer : Option (List ℕ)) → answer ≡ Some domain → Tells text answer → Gives text answer → or_fault which (domain_of text) ≡ Ok domain
domain_some which text domain answer e told given = domain_read which text domain (subst (Tells text) e told) (subst (Gives text) e given)

pub domain_none : (which : LineFault) (text : List ℕ) (answer : Option (List ℕ)) → answer ≡ None → Tells text answer → or_fault which (domain_of text) ≡ Err which
domain_none which text answer e told = domain_refused which text (subst (Tells text) e told)

pub address_exactly : (text : List ℕ) (url : Url) → (read_url text ≡ Some url) ↔ Spells text url
address_exactly text url = (read_url_spelled text url, read_url_found text url)

domain_back : (text domain : List ℕ) → domain_of text ≡ Some domain → IsDomain text × (domain ≡ text)
domain_back text domain e = go (is_domain text) refl e where
  go : (t : Bool) → is_domain text ≡ t → cond t (Some text) None ≡ Some domain → IsDomain text × (domain ≡ text)
  go true is f = let same : domain ≡ text = cc in (IsDomain-from text is, same)
  go false is f = cc

domain_given : (text domain : List ℕ) → IsDomain text × (domain ≡ text) → domain_of text ≡ Some domain
domain_given text domain h = let test : is_domain text ≡ true = is_domain-from text h.0 in rw (h.1, test) refl

pub domain_exactly : (text domain : List ℕ) → (domain_of text ≡ Some domain) ↔ (IsDomain text × (domain ≡ text))
domain_exactly text domain = (domain_back text domain, domain_given text domain)
