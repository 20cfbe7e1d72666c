-- Lines that fit, in front of lines that fit.
use Rattle.std.proofs.Common.{◌≡◌, ℕ, Bool, true, false, List, [], ◌∷◌, refl}
use Rattle.std.specs.Prelude.{◌&&◌, if◌then◌else◌}
use Rattle.std.proofs.lemmas.Bool.{and_from, and_parts}
use Rattle.nim_types.specs.Types.{Ty}
use Rattle.nim_meaning.specs.Waiting.{Wait}
use Rattle.flat_code.specs.declared.line.Line.{Line}
use Rattle.flat_code.specs.declared.line.Line.TheVariants as L
use Rattle.flat_code.specs.declared.line.Owning.TheVariants as W
use Rattle.flat_code.specs.declared.place.FlatPlace.{FlatPlace}
use Rattle.flat_code.specs.Scene.{Known}
use Rattle.flat_code.specs.Codes.{flat_plain}
use Rattle.flat_code.specs.Fits.{Signature, fits, all_fit}
use Rattle.flat_code.specs.Waits.{waits_right, all_wait_right}
use Rattle.flat_code.specs.Leads.{leads_right, all_lead}
use Rattle.flattening.specs.ExprLines.{taken_lines, end_lines}
use Rattle.flattening.specs.Numbering.{number_or}
use Rattle.flattening.proofs.Parts.{Each}
use Rattle.flattening.proofs.Puts.{is_empty}

-- what is around lines: what is known of types, the procedures that may be called, the places of the start code, those of the procedure, and which of
-- these stand for others
pub record Among : Type 0 where
  pub known : Known
  pub procs : List Signature
  pub globals : List FlatPlace
  pub places : List FlatPlace
  pub stands : ℕ → Bool

abbrev pub fitting : Among → Line → Bool
fitting x line = fits x.known x.procs x.globals x.places line

abbrev pub leading : Among → Line → Bool
leading x line = leads_right x.known x.places x.stands line

-- a line leads where it may, and what it lets wait, takes or ends is in its temporary
abbrev pub waiting_right : Among → Line → Bool
waiting_right x line = leading x line && waits_right x.known x.places line

abbrev pub all_waiting : Among → List Line → Bool
all_waiting x lines = all_wait_right flat_plain x.known x.places lines

abbrev pub all_leading : Among → List Line → Bool
all_leading x lines = all_lead x.known x.places x.stands lines

abbrev pub all_fitting : Among → List Line → Bool
all_fitting x lines = all_fit x.known x.procs x.globals x.places lines

-- there are lines in front where there are lines behind
pub record Fit (x : Among) (front : List Line → List Line) : Type 0 where
  pub all : (k : List Line) → all_fitting x k ≡ true → all_fitting x (front k) ≡ true
  pub waits : (k : List Line) → all_waiting x k ≡ true → all_waiting x (front k) ≡ true
  pub leads : (k : List Line) → all_leading x k ≡ true → all_leading x (front k) ≡ true
  pub some : (k : List Line) → is_empty k ≡ false → is_empty (front k) ≡ false

pub fit_none : {x : Among} → Fit x (λ k. k)
fit_none = record { all = λ k h. h; waits = λ k h. h; leads = λ k h. h; some = λ k h. h }

pub fit_line : {x : Among} (line : Line) → waiting_right x line ≡ true → fitting x line ≡ true → Fit x (λ k. line ∷ k)
fit_line {x} line right fit =
    let q = and_parts (leading x line) (waits_right x.known x.places line) right in record {
      all = λ k h. and_from (fitting x line) (all_fitting x k) fit h;
      waits = λ k h. and_from (waits_right x.known x.places line) (all_waiting x k) q.1 h;
      leads = λ k h. and_from (leading x line) (all_leading x k) q.0 h;
      some = λ k h. refl;
    }

infixl 10 ◌>>◌
pub ◌>>◌ : {x : Among} {F G : List Line → List Line} → Fit x F → Fit x G → Fit x (λ k. F (G k))
◌>>◌ {x} {F} {G} p q = record {
  all = λ k h. p.all (G k) (q.all k h);
  waits = λ k h. p.waits (G k) (q.waits k h);
  leads = λ k h. p.leads (G k) (q.leads k h);
  some = λ k h. p.some (G k) (q.some k h);
}

pub fit_if : {x : Among} {F G : List Line → List Line} (b : Bool) → Fit x F → Fit x G → Fit x (λ k. if b then F k else G k)
fit_if true p q = p
fit_if false p q = q

-- where what is in front goes by what is known
pub fit_by : {x : Among} {F G : List Line → List Line} (b : Bool) → (b ≡ true → Fit x F) → (b ≡ false → Fit x G) → Fit x (λ k. if b then F k else G k)
fit_by true p q = p refl
fit_by false p q = q refl

-- ---- what waits

-- in a temporary, from which an operation takes it, or in which it ends
abbrev pub Takes : Among → ℕ → Type 0
Takes x node = waiting_right x (L.Own (W.TakenUp node) []) ≡ true

abbrev pub Ends : Among → List Ty → Wait → Type 0
Ends x types w = waiting_right x (L.Own (W.TemporaryEnds w.node (number_or types w.of)) []) ≡ true

pub fit_taken : {x : Among} (nodes : List ℕ) → Each (Takes x) nodes → Fit x (taken_lines nodes)
fit_taken [] h = fit_none
fit_taken (node ∷ nodes) h = fit_line (L.Own (W.TakenUp node) []) h.0 refl >> fit_taken nodes h.1

pub fit_ends : {x : Among} (types : List Ty) (waits : List Wait) → Each (Ends x types) waits → Fit x (end_lines types waits)
fit_ends types [] h = fit_none
fit_ends types (w ∷ ws) h = fit_ends types ws h.1 >> fit_line (L.Own (W.TemporaryEnds w.node (number_or types w.of)) []) h.0 refl
