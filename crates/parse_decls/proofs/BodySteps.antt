-- The steps of reading a declaration of a type.
use Rattle.std.proofs.Common.{◌≡◌, ℕ, suc, ◌+◌, ◌<◌, List, [], ◌∷◌, length, drop, refl, sym, ap, subst, ◌∙◌, Bool, true, false}
use Rattle.std.specs.Prelude.{if◌then◌else◌, Result}
use Rattle.arc_base.specs.declared.place.Place.{Place}
use Rattle.arc_base.specs.declared.place.Stop.{Stop}
use Rattle.indent_scanner.specs.declared.token.Key.TheVariants as K
use Rattle.indent_scanner.specs.declared.token.Tok.{Tok}
use Rattle.indent_scanner.specs.declared.token.Tok.TheVariants as T
use Rattle.indent_scanner.specs.declared.token.Token.{Token}
use Rattle.nim_tree.specs.declared.name.Name.{Name}
use Rattle.nim_tree.specs.declared.name.Declared.{Declared}
use Rattle.nim_tree.specs.declared.types.TypeBody.{TypeBody}
use Rattle.nim_tree.specs.Types.{Declaration, body_of}
use Rattle.parse_exprs.specs.declared.input.Input.{Input}
use Rattle.parse_exprs.specs.declared.layout.Layout.{Layout}
use Rattle.parse_exprs.specs.declared.layout.Layout.TheVariants.{Lines}
use Rattle.parse_exprs.specs.Look.{Origin, place_at, stays}
use Rattle.parse_exprs.specs.Input.{origin_of, from_at}
use Rattle.parse_decls.specs.declared.look.BodyLead.{BodyLead}
use Rattle.parse_decls.specs.declared.look.BodyLead.TheVariants as B
use Rattle.parse_decls.specs.declared.reading.Reading.{Reading}
use Rattle.parse_decls.specs.Look.{behind, body_lead, body_lead_of, object_at}
use Rattle.parse_decls.specs.Outcome.{stuck_at, Out, got, then_do, unless_stuck, Settles}
use Rattle.parse_decls.specs.Run.{run_body, run_body_by, run_object, run_enum, run_distinct}
use Rattle.parse_decls.specs.Gives.{Told, Fails, Comes, Leads}
use Rattle.parse_decls.proofs.Settling.{settles_got}
use Rattle.parse_decls.proofs.Coming.{told_fails, comes_at, behind_at, within_at}

-- what reading goes on as behind the `=`
abbrev pub declared_run : Input → ℕ → Declared → List Name → List Token → ℕ → Out Declaration
declared_run input n name parameters ts k =
    unless_stuck (stays (Lines n) ts) ts
    (then_do (run_body k (origin_of input) n ts) (λ body rest. got (record { name = name; parameters = parameters; body = body }) rest))

-- ---- what a declared type is

pub body_empty : (x : Origin) (n : ℕ) (ts : List Token) → ts ≡ [] → (stop : Stop) → Told x (stuck_at ts) stop → Fails (λ k. run_body k x n ts) x stop
body_empty x n ts e stop t = subst (λ all. Fails (λ k. run_body k x n all) x stop) (sym e)
    (told_fails x settles_got stop (subst (λ all. Told x (stuck_at all) stop) e t))

-- the first token is there, and what the body begins with
pub body_leads : (x : Origin) (n : ℕ) (ts us : List Token) (tok : Token) (lead : BodyLead) (p : Place) → ts ≡ tok ∷ us → body_lead (Lines n) ts ≡ lead
    → p ≡ place_at x tok
    → Leads (λ k. run_body_by k lead x n p ts) (λ k. run_body k x n ts)
body_leads x n ts us tok lead p s e q o h =
    subst (λ all. Settles (λ k. run_body k x n all) o) (sym s)
    (subst (λ l. Settles (λ k. run_body_by k l x n (place_at x tok) (tok ∷ us)) o) (sym (ap (body_lead (Lines n)) (sym s) ∙ e))
    (subst (λ all. Settles (λ k. run_body_by k lead x n (place_at x tok) all) o) s
    (subst (λ r. Settles (λ k. run_body_by k lead x n r ts) o) q h)))

pub object_comes : (input : Input) (n at : ℕ) (p : Place) (r : Result (Reading TypeBody) Stop)
    → Comes body_of (λ k. run_object k (origin_of input) n p false (from_at input (at + 1))) input (at + 1) r
    → Comes body_of (λ k. run_body_by k B.Object (origin_of input) n p (from_at input at)) input (at + 1) r
object_comes input n at p r h = comes_at body_of (λ ts k. run_object k (origin_of input) n p false ts) input (at + 1) r (behind_at at input.tokens.now) h

pub ref_object_comes : (input : Input) (n at : ℕ) (p : Place) (r : Result (Reading TypeBody) Stop)
    → Comes body_of (λ k. run_object k (origin_of input) n p true (from_at input (at + 1 + 1))) input (at + 1 + 1) r
    → Comes body_of (λ k. run_body_by k B.RefObject (origin_of input) n p (from_at input at)) input (at + 1 + 1) r
ref_object_comes input n at p r h =
    comes_at body_of (λ ts k. run_object k (origin_of input) n p true ts) input (at + 1 + 1) r (ap behind (behind_at at input.tokens.now)
    ∙ behind_at (at + 1) input.tokens.now) h

pub enum_comes : (input : Input) (n at : ℕ) (p : Place) (r : Result (Reading TypeBody) Stop)
    → Comes body_of (λ k. run_enum k (origin_of input) n p (from_at input (at + 1))) input (suc (at + 1)) r
    → Comes body_of (λ k. run_body_by k B.Enum (origin_of input) n p (from_at input at)) input (suc (at + 1)) r
enum_comes input n at p r h = comes_at body_of (λ ts k. run_enum k (origin_of input) n p ts) input (suc (at + 1)) r (behind_at at input.tokens.now) h

pub distinct_comes : (input : Input) (n at : ℕ) (p : Place) (r : Result (Reading TypeBody) Stop)
    → Comes body_of (λ k. run_distinct k (origin_of input) n p (from_at input (at + 1))) input (suc (at + 1)) r
    → Comes body_of (λ k. run_body_by k B.Distinct (origin_of input) n p (from_at input at)) input (suc (at + 1)) r
distinct_comes input n at p r h = comes_at body_of (λ ts k. run_distinct k (origin_of input) n p ts) input (suc (at + 1)) r (behind_at at input.tokens.now) h

-- `object` stands behind `ref`
if_object : (b : Bool) → (if b then B.RefObject else B.Alias) ≡ B.RefObject → b ≡ true
if_object true e = refl
if_object false e = cc

lead_object : (i : Layout) (us : List Token) (kind : Tok) → body_lead_of i us kind ≡ B.RefObject → object_at i us ≡ true
lead_object i us (T.Key K.Ref) e = if_object (object_at i us) e
lead_object i us _ e = cc

-- so both stand within the tokens
pub ref_object_within : (i : Layout) (at : ℕ) (ts us : List Token) (tok : Token) → drop at ts ≡ tok ∷ us → us ≡ drop (at + 1) ts → body_lead i (drop at ts)
    ≡ B.RefObject → at + 1 < length ts
ref_object_within i at ts us tok s u e =
    let o = lead_object i us tok.kind (ap (body_lead i) (sym s) ∙ e) in
    within_at (object_at i) refl (at + 1) ts (ap (object_at i) (sym u) ∙ o)
