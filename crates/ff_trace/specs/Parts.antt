-- The parts of an input's line: numbers, addresses, domains, strings and responses, each of which
-- is one item.
use Rattle.std.specs.Prelude.{ℕ, ◌^◌, ◌&&◌, if◌then◌else◌, nat_lt, Option, Some, None, Result, Ok, Err, List}
use Rattle.std.specs.Str.{bytes_eq}
use Rattle.std.specs.Str.Parse.{digits_value}
use Rattle.ff_name.specs.declared.urls.Url.{Url}
use Rattle.ff_number.specs.Decimal.{nat_text}
use Rattle.ff_text.specs.declared.items.Sexp.{Sexp, out-Sexp}
use Rattle.ff_text.specs.declared.items.Sexp.TheOpen.{Sexp-F}
use Rattle.ff_value.specs.declared.reply.Resp.{Resp}
use Rattle.ff_forms.specs.Grammar.{resp_in}
use Rattle.ff_name.specs.Reading.{is_domain, read_url}
use Rattle.ff_forms.specs.declared.fault.SyntaxFault.{SyntaxFault}
use Rattle.ff_forms.specs.declared.fault.SyntaxFault.TheVariants as syntax
use Rattle.ff_trace.specs.declared.fault.LineFault.{LineFault}
use Rattle.ff_trace.specs.declared.fault.LineFault.TheVariants as fault

-- the number below 2 ^ 32 whose canonical spelling these bytes are
abbrev pub number_of : List ℕ → Option ℕ
number_of text =
    if nat_lt (digits_value 10 text) (2 ^ 32) && bytes_eq (nat_text (digits_value 10 text)) text
    then Some (digits_value 10 text)
    else None

-- the domain that these bytes are
abbrev pub domain_of : List ℕ → Option (List ℕ)
domain_of text = if is_domain text then Some text else None

-- what is read, or else this fault
abbrev pub or_fault : {A : Type 0} → LineFault → Option A → Result A LineFault
or_fault which None = Err which
or_fault which (Some value) = Ok value

-- a word, by what it spells; an item of another sort spells nothing
abbrev pub by_word : {A : Type 0} → LineFault → (List ℕ → Option A) → Sexp-F Sexp → Result A LineFault
by_word which read (Sexp-F.Word at text) = or_fault which (read text)
by_word which read (Sexp-F.Str at value) = Err which
by_word which read (Sexp-F.List at parts) = Err which

abbrev pub number_in : Sexp → Result ℕ LineFault
number_in item = by_word fault.Number number_of (out-Sexp item)

abbrev pub address_in : Sexp → Result Url LineFault
address_in item = by_word fault.Url read_url (out-Sexp item)

abbrev pub domain_in : Sexp → Result (List ℕ) LineFault
domain_in item = by_word fault.Url domain_of (out-Sexp item)

-- a string, by its value; another item is a wrong one at the place of its first byte
abbrev pub by_string : Sexp-F Sexp → Result (List ℕ) LineFault
by_string (Sexp-F.Word at text) = Err (fault.Syntax (syntax.Place at.from))
by_string (Sexp-F.Str at value) = Ok value
by_string (Sexp-F.List at parts) = Err (fault.Syntax (syntax.Place at.from))

abbrev pub string_in : Sexp → Result (List ℕ) LineFault
string_in item = by_string (out-Sexp item)

-- the response that the item spells, or the fault of the item as a response
abbrev pub or_syntax : {A : Type 0} → Result A SyntaxFault → Result A LineFault
or_syntax (Ok value) = Ok value
or_syntax (Err which) = Err (fault.Syntax which)

abbrev pub response_in : Sexp → Result Resp LineFault
response_in item = or_syntax (resp_in item)
