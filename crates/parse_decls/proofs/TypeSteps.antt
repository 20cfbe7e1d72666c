-- The steps of reading a written type.
use Rattle.std.proofs.Common.{◌≡◌, ℕ, suc, ◌+◌, ◌<◌, List, [], ◌∷◌, length, drop, refl, sym, ap, subst, ◌∙◌, arith, true, false}
use Rattle.std.specs.Prelude.{if◌then◌else◌, Option, Some, None, Result}
use Rattle.arc_base.specs.declared.place.Place.{Place}
use Rattle.arc_base.specs.declared.place.Stop.{Stop}
use Rattle.indent_scanner.specs.declared.token.Token.{Token}
use Rattle.nim_tree.specs.declared.name.Declared.{Declared}
use Rattle.nim_tree.specs.declared.types.TypeTree.{TypeTree}
use Rattle.nim_tree.specs.Terms.{Term}
use Rattle.nim_tree.specs.Types.{Written, named, array, ref_to, tuple_of, Arguments, no_arguments, argument, Fields, no_fields, fields, written_of}
use Rattle.parse_exprs.specs.declared.input.Input.{Input}
use Rattle.parse_exprs.specs.declared.input.Bracket.TheVariants.{Square}
use Rattle.parse_exprs.specs.declared.layout.Layout.{Layout}
use Rattle.parse_exprs.specs.declared.layout.Layout.TheVariants.{Brackets}
use Rattle.parse_exprs.specs.Look.{Origin, spelling, place_at, closes_at, stays, colon_at}
use Rattle.parse_exprs.specs.Input.{origin_of, from_at}
use Rattle.parse_decls.specs.declared.look.TypeLead.{TypeLead}
use Rattle.parse_decls.specs.declared.look.TypeLead.TheVariants as L
use Rattle.parse_decls.specs.declared.reading.Reading.{Reading}
use Rattle.parse_decls.specs.Look.{behind, type_at, type_lead, opens_at}
use Rattle.parse_decls.specs.Outcome.{too_deep, stuck_at, Out, got, then_do, unless_stuck, Settles}
use Rattle.parse_decls.specs.Run.{run_declareds, run_length, run_type, run_sort, run_inside, run_arguments, Typed, run_part, run_parts, run_written}
use Rattle.parse_decls.specs.Gives.{Told, Fails, Found, Comes, Leads}
use Rattle.parse_decls.proofs.Settling.{settles_suc, settles_got, settles_if, settles_else, settles_stuck}
use Rattle.parse_decls.proofs.Coming.{told_fails, fails_leads, comes_leads, leads_on, leads_then, leads_past, settles_at, behind_at}

-- ---- no level is left, or nothing

pub type_none : (x : Origin) (i : Layout) (whole ts : List Token) (left : ℕ) → left ≡ 0 → (stop : Stop)
    → Told x (if type_at ts then too_deep whole else stuck_at ts) stop → Fails (λ k. run_type k x i whole left ts) x stop
type_none x i whole ts left e stop t = subst (λ n. Fails (λ k. run_type k x i whole n ts) x stop) (sym e)
    (told_fails x (settles_suc settles_got (λ k. refl)) stop t)

pub type_empty : (x : Origin) (i : Layout) (whole ts : List Token) (left n : ℕ) → left ≡ suc n → ts ≡ [] → (stop : Stop) → Told x (stuck_at ts) stop
    → Fails (λ k. run_type k x i whole left ts) x stop
type_empty x i whole ts left n e s stop t =
    subst (λ m. Fails (λ k. run_type k x i whole m ts) x stop) (sym e)
    (subst (λ all. Fails (λ k. run_type k x i whole (suc n) all) x stop) (sym s)
    (told_fails x (settles_suc settles_got (λ k. refl)) stop (subst (λ all. Told x (stuck_at all) stop) s t)))

-- ---- what it begins with

pub type_leads : (x : Origin) (i : Layout) (whole ts us : List Token) (tok : Token) (lead : TypeLead) (left n : ℕ) → left ≡ suc n → ts ≡ tok ∷ us
    → type_lead x i tok us ≡ lead
    → Leads (λ k. run_sort k lead x i whole n tok us) (λ k. run_type k x i whole left ts)
type_leads x i whole ts us tok lead left n e s d o h =
    subst (λ m. Settles (λ k. run_type k x i whole m ts) o) (sym e)
    (subst (λ all. Settles (λ k. run_type k x i whole (suc n) all) o) (sym s)
    (settles_suc (subst (λ l. Settles (λ k. run_sort k l x i whole n tok us) o) (sym d) h) (λ k. refl)))

pub type_comes : (input : Input) (i : Layout) (whole : List Token) (at : ℕ) (tok : Token) (lead : TypeLead) (left n : ℕ) → left ≡ suc n
    → from_at input at ≡ tok ∷ from_at input (at + 1) → type_lead (origin_of input) i tok (from_at input (at + 1)) ≡ lead
    → (r : Result (Reading TypeTree) Stop) → Comes written_of (λ k. run_sort k lead (origin_of input) i whole n tok (from_at input (at + 1))) input (suc at) r
    → Comes written_of (λ k. run_type k (origin_of input) i whole left (from_at input at)) input (suc at) r
type_comes input i whole at tok lead left n e s d r h = comes_leads written_of _ _ input (suc at)
    (type_leads (origin_of input) i whole (from_at input at) (from_at input (at + 1)) tok lead left n e s d) (suc at) (omega arith) r h

pub type_other : (input : Input) (i : Layout) (whole : List Token) (at : ℕ) (tok : Token) (left n : ℕ) → left ≡ suc n → from_at input at ≡ tok ∷ from_at input
    (at + 1) → type_lead (origin_of input) i tok (from_at input (at + 1)) ≡ L.Other
    → (stop : Stop) → Told (origin_of input) (stuck_at (from_at input at)) stop → Fails (λ k. run_type k (origin_of input) i whole left (from_at input at))
    (origin_of input) stop
type_other input i whole at tok left n e s d stop t =
    fails_leads _ _ (origin_of input) (type_leads (origin_of input) i whole (from_at input at) (from_at input (at + 1)) tok L.Other left n e s d) stop
    (told_fails (origin_of input) (settles_suc settles_got (λ k. refl)) stop (subst (λ all. Told (origin_of input) (stuck_at all) stop) s t))

two_behind : (at : ℕ) (ts : List Token) → behind (drop (at + 1) ts) ≡ drop (at + 2) ts
two_behind at ts = behind_at (at + 1) ts ∙ ap (λ k. drop k ts) (omega arith)

-- ---- a name

abbrev pub named_end : Input → Token → Arguments → List Token → Out Written
named_end input tok all end = unless_stuck (closes_at Square end) end (got (named (place_at (origin_of input) tok) (spelling (origin_of input) tok) all)
    (behind end))

-- the types in a bracket
abbrev pub inside_run : Input → List Token → ℕ → Token → List Token → ℕ → Out Written
inside_run input whole n tok ts k =
    then_do (run_type k (origin_of input) Brackets whole n ts) (λ a mid.
    then_do (run_arguments k (origin_of input) whole n (argument a no_arguments) mid) (λ all end. named_end input tok all end))

pub inside_leads : (input : Input) (whole : List Token) (n : ℕ) (tok : Token) (ts : List Token) → Leads (inside_run input whole n tok ts)
    (λ k. run_inside k None (origin_of input) whole n tok ts)
inside_leads input whole n tok ts o h = settles_suc h (λ k. refl)

pub bare_found : (input : Input) (i : Layout) (whole : List Token) (n : ℕ) (tok : Token) (at : ℕ) → opens_at i Square (from_at input (at + 1)) ≡ false
    → at < length input.tokens.now
    → Found (λ k. run_sort k L.Name (origin_of input) i whole n tok (from_at input (at + 1))) input (suc at)
    (named (place_at (origin_of input) tok) (spelling (origin_of input) tok) no_arguments) (at + 1)
bare_found input i whole n tok at e w = record {
  runs = settles_suc (settles_else (λ k. run_inside k None (origin_of input) whole n tok (behind (from_at input (at + 1)))) e settles_got) (λ k. refl);
  goes = omega arith;
  within = omega (arith, w);
}

pub named_leads : (input : Input) (i : Layout) (whole : List Token) (n : ℕ) (tok : Token) (at : ℕ) → opens_at i Square (from_at input (at + 1)) ≡ true
    → Leads (λ k. run_inside k None (origin_of input) whole n tok (from_at input (at + 1 + 1)))
    (λ k. run_sort k L.Name (origin_of input) i whole n tok (from_at input (at + 1)))
named_leads input i whole n tok at e o h = settles_suc
    (settles_if (λ k. got (named (place_at (origin_of input) tok) (spelling (origin_of input) tok) no_arguments) (from_at input (at + 1))) e
    (settles_at (λ ts k. run_inside k None (origin_of input) whole n tok ts) (behind_at (at + 1) input.tokens.now) h))
    (λ k. refl)

-- ---- an array

abbrev pub array_end : Input → Token → Term → Written → List Token → Out Written
array_end input tok length a end = unless_stuck (closes_at Square end) end (got (array (place_at (origin_of input) tok) length a) (behind end))

abbrev pub element_run : Input → List Token → ℕ → Token → Term → List Token → ℕ → Out Written
element_run input whole n tok length ts k = then_do (run_type k (origin_of input) Brackets whole n ts) (λ a end. array_end input tok length a end)

pub element_leads : (input : Input) (whole : List Token) (n : ℕ) (tok : Token) (length : Term) (ts : List Token)
    → Leads (element_run input whole n tok length ts) (λ k. run_inside k (Some length) (origin_of input) whole n tok ts)
element_leads input whole n tok length ts o h = settles_suc h (λ k. refl)

abbrev pub array_run : Input → List Token → ℕ → Token → List Token → ℕ → Out Written
array_run input whole n tok ts k = then_do (run_length k (origin_of input) whole n ts) (λ length mid. run_inside k length (origin_of input) whole n tok mid)

pub array_leads : (input : Input) (i : Layout) (whole : List Token) (n : ℕ) (tok : Token) (at : ℕ)
    → Leads (array_run input whole n tok (from_at input (at + 2))) (λ k. run_sort k L.Array (origin_of input) i whole n tok (from_at input (at + 1)))
array_leads input i whole n tok at o h = settles_suc (settles_at (array_run input whole n tok) (two_behind at input.tokens.now) h) (λ k. refl)

-- a length was read, or none, and what goes on from there
pub array_on : (input : Input) (i : Layout) (whole : List Token) (n : ℕ) (tok : Token) (at next : ℕ) (read wanted : Option Term) → read ≡ wanted
    → Found (λ k. run_length k (origin_of input) whole n (from_at input (at + 2))) input (at + 2) read next
    → Leads (λ k. run_inside k wanted (origin_of input) whole n tok (from_at input next))
    (λ k. run_sort k L.Array (origin_of input) i whole n tok (from_at input (at + 1)))
array_on input i whole n tok at next read wanted e f =
    let runs : Settles (λ k. run_length k (origin_of input) whole n (from_at input (at + 2))) (got wanted (from_at input next)) =
    subst (λ o. Settles (λ k. run_length k (origin_of input) whole n (from_at input (at + 2))) (got o (from_at input next))) e f.runs in
    leads_on (leads_then (λ k length mid. run_inside k length (origin_of input) whole n tok mid) runs) (array_leads input i whole n tok at)

-- ---- a reference

abbrev pub ref_run : Input → Layout → List Token → ℕ → Token → List Token → ℕ → Out Written
ref_run input i whole n tok ts k =
    unless_stuck (stays i ts) ts (then_do (run_type k (origin_of input) i whole n ts) (λ a rest. got (ref_to (place_at (origin_of input) tok) a) rest))

pub ref_leads : (input : Input) (i : Layout) (whole : List Token) (n : ℕ) (tok : Token) (ts : List Token) → Leads (ref_run input i whole n tok ts)
    (λ k. run_sort k L.Ref (origin_of input) i whole n tok ts)
ref_leads input i whole n tok ts o h = settles_suc h (λ k. refl)

-- ---- a tuple

abbrev pub tuple_end : Input → Token → Fields → List Token → Out Written
tuple_end input tok all end = unless_stuck (closes_at Square end) end (got (tuple_of (place_at (origin_of input) tok) all) (behind end))

abbrev pub fields_run : Input → List Token → ℕ → Token → List Token → ℕ → Out Written
fields_run input whole n tok ts k =
    then_do (run_part k (origin_of input) whole n ts) (λ one mid.
    then_do (run_parts k (origin_of input) whole n (fields one.names one.of no_fields) mid) (λ all end. tuple_end input tok all end))

abbrev pub tuple_run : Input → List Token → ℕ → Token → List Token → ℕ → Out Written
tuple_run input whole n tok ts k = if closes_at Square ts then got (tuple_of (place_at (origin_of input) tok) no_fields) (behind ts)
    else fields_run input whole n tok ts k

pub tuple_leads : (input : Input) (i : Layout) (whole : List Token) (n : ℕ) (tok : Token) (at : ℕ) → opens_at i Square (from_at input (at + 1)) ≡ true
    → Leads (tuple_run input whole n tok (from_at input (at + 1 + 1))) (λ k. run_sort k L.Tuple (origin_of input) i whole n tok (from_at input (at + 1)))
tuple_leads input i whole n tok at e o h = settles_suc (leads_past input (at + 1) (tuple_run input whole n tok) e o h) (λ k. refl)

pub tuple_closed : (input : Input) (i : Layout) (whole : List Token) (n : ℕ) (tok : Token) (ts : List Token) → opens_at i Square ts ≡ false → (stop : Stop)
    → Told (origin_of input) (stuck_at ts) stop
    → Fails (λ k. run_sort k L.Tuple (origin_of input) i whole n tok ts) (origin_of input) stop
tuple_closed input i whole n tok ts e stop t =
    told_fails (origin_of input) (settles_suc (settles_stuck (tuple_run input whole n tok (behind ts)) ts e) (λ k. refl)) stop t

-- ---- a part of a tuple

abbrev pub of_run : Input → List Token → ℕ → List Declared → List Token → ℕ → Out Typed
of_run input whole n names ts k = then_do (run_type k (origin_of input) Brackets whole n ts) (λ a rest. got (record { names = names; of = a }) rest)

abbrev pub part_run : Input → List Token → ℕ → List Token → ℕ → Out Typed
part_run input whole n ts k = then_do (run_declareds k (origin_of input) Brackets Brackets ts)
    (λ names mid. unless_stuck (colon_at Brackets mid) mid (of_run input whole n names (behind mid) k))

pub part_leads : (input : Input) (whole : List Token) (n : ℕ) (ts : List Token) → Leads (part_run input whole n ts)
    (λ k. run_part k (origin_of input) whole n ts)
part_leads input whole n ts o h = settles_suc h (λ k. refl)

-- ---- the trees

pub named_value : (x : Origin) (tok : Token) {p : Place} {text : List ℕ} {some all : Arguments} → p ≡ place_at x tok → text ≡ spelling x tok → some ≡ all
    → named p text some ≡ named (place_at x tok) (spelling x tok) all
named_value x tok {text = text} {some} e s a = ap (λ q. named q text some) e ∙ ap (λ t. named (place_at x tok) t some) s
    ∙ ap (named (place_at x tok) (spelling x tok)) a

pub array_value : (x : Origin) (tok : Token) {p : Place} (length : Term) (a : Written) → p ≡ place_at x tok → array p length a ≡ array (place_at x tok) length a
array_value x tok length a e = ap (λ q. array q length a) e

pub ref_value : (x : Origin) (tok : Token) {p : Place} (a : Written) → p ≡ place_at x tok → ref_to p a ≡ ref_to (place_at x tok) a
ref_value x tok a e = ap (λ q. ref_to q a) e

pub tuple_value : (x : Origin) (tok : Token) {p : Place} {some all : Fields} → p ≡ place_at x tok → some ≡ all → tuple_of p some ≡ tuple_of (place_at x tok) all
tuple_value x tok {some = some} e a = ap (λ q. tuple_of q some) e ∙ ap (tuple_of (place_at x tok)) a

-- ---- a colon and a type

abbrev pub typed_run : Input → Layout → List Token → ℕ → Out Written
typed_run input i ts k = unless_stuck (stays i ts) ts (run_written k (origin_of input) i ts)
