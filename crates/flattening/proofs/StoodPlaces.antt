-- What a body declares, and which of its places stand for others: the variable of a `for` over the elements of a value that no place holds, where these
-- have hooks. Each place has a number of its own, so none is both filled and stood for.
use Rattle.std.proofs.Common.{◌≡◌, ℕ, suc, ◌≤◌, Bool, true, false, List, [], ◌∷◌, ◌++◌, Option, Some, None, refl, ap, ◌∙◌, arith}
use Rattle.std.specs.Prelude.{nat_eq, nat_le, ◌&&◌, if◌then◌else◌}
use Rattle.std.proofs.lemmas.Bool.{and_parts, leb-true, eq-eqb, ne_eqb}
use Rattle.nim_types.specs.Types.{Ty, Facts}
use Rattle.nim_program.specs.declared.program.Mode.{Mode}
use Rattle.nim_program.specs.Program.{Args, Declared, Kind, While, Count, Each as OfEach, Stmt, Do, Idle, Give, Leave, Select, Loop, Raise, Try}
use Rattle.nim_program.specs.Program.{Stmts, Empty, Then, Declare, Defer, Blocks, Otherwise, Block, Handlers, NoHandler, Handler}
use Rattle.nim_program.specs.Numbering as numbering
use Rattle.nim_program.specs.Sizes.{is_global}
use Rattle.nim_meaning.specs.Here.{is_hooked}
use Rattle.nim_meaning.specs.Meaning.{is_fresh}
use Rattle.flat_code.specs.declared.place.PlaceKind.TheVariants as K
use Rattle.flat_code.specs.declared.place.FlatPlace.{FlatPlace}
use Rattle.flattening.specs.Numbering.{type_number}
use Rattle.flattening.specs.PlaceViews.{declared_by, declared_in, declared_in_blocks, declared_in_handlers}
use Rattle.flattening.proofs.Declared.{is_block, numbers}
use Rattle.flattening.proofs.Parts.{Each}
use Rattle.flattening.proofs.Simple.{never}

-- a declared place, and whether it stands for others
pub record Mark : Type 0 where
  pub place : Declared
  pub stands : Bool

abbrev pub mark : Declared → Bool → Mark
mark place stands = record { place = place; stands = stands }

abbrev pub caught_marks : Option Declared → List Mark
caught_marks None = []
caught_marks (Some name) = mark name false ∷ []

module _ (facts : Facts) where
  abbrev pub loop_marks : Kind → Args → List Mark
  loop_marks While head = []
  loop_marks (Count variable inclusive) head = mark variable false ∷ []
  loop_marks (OfEach variable) head = mark variable (is_fresh head && is_hooked facts variable.of) ∷ []

  abbrev mutual
    pub marks_in : Stmt → List Mark
    marks_in (Do value) = []
    marks_in (Idle node parts) = []
    marks_in (Give node back value) = []
    marks_in (Leave node leaving parts) = []
    marks_in (Select node chooser tests blocks) = marks_of_blocks blocks
    marks_in (Loop node kind head body) = loop_marks kind head ++ marks_of body
    marks_in (Raise node exception message) = []
    marks_in (Try node body handlers last) = marks_of body ++ (marks_of_handlers handlers ++ marks_of last)

    pub marks_of : Stmts → List Mark
    marks_of Empty = []
    marks_of (Then first rest) = marks_in first ++ marks_of rest
    marks_of (Declare node place cursor value rest) = mark place false ∷ marks_of rest
    marks_of (Defer node last rest) = marks_of last ++ marks_of rest

    pub marks_of_blocks : Blocks → List Mark
    marks_of_blocks (Otherwise block) = marks_of block
    marks_of_blocks (Block first rest) = marks_of first ++ marks_of_blocks rest

    pub marks_of_handlers : Handlers → List Mark
    marks_of_handlers NoHandler = []
    marks_of_handlers (Handler kinds name body rest) = caught_marks name ++ (marks_of body ++ marks_of_handlers rest)

-- by its number
abbrev pub stood_by : List Mark → ℕ → Bool
stood_by [] n = false
stood_by (m ∷ ms) n = if nat_eq m.place.number n then m.stands else stood_by ms n

-- ---- they are marks of the places of flat code

pub record IsMarked (types : List Ty) (facts : Facts) (p : FlatPlace) (m : Mark) : Type 0 where
  pub number : p.number ≡ m.place.number
  pub of : p.ty ≡ type_number types m.place.of
  pub block : is_block p.kind ≡ true
  pub of_loop : m.stands ≡ true → p.kind ≡ K.ForVar
  pub hooked : m.stands ≡ true → is_hooked facts m.place.of ≡ true

abbrev pub AllMarked : List Ty → Facts → List FlatPlace → List Mark → Type 0
AllMarked types facts [] [] = Unit {0}
AllMarked types facts (p ∷ ps) (m ∷ ms) = IsMarked types facts p m × AllMarked types facts ps ms
AllMarked types facts [] (m ∷ ms) = ⊥
AllMarked types facts (p ∷ ps) [] = ⊥

module _ (types : List Ty) (facts : Facts) (modes : (proc position : ℕ) → Mode) (globals : List Declared) where
  both_marked : (ps qs : List FlatPlace) (ms ns : List Mark) → AllMarked types facts ps ms → AllMarked types facts qs ns →
      AllMarked types facts (ps ++ qs) (ms ++ ns)
  both_marked [] qs [] ns h k = k
  both_marked [] qs (m ∷ ms) ns h k = absurd h
  both_marked (p ∷ ps) qs [] ns h k = absurd h
  both_marked (p ∷ ps) qs (m ∷ ms) ns h k = (h.0, both_marked ps qs ms ns h.1 k)

  kind_block : (g c : Bool) → is_block (if g then K.Global else if c then K.Cursor else K.Local) ≡ true
  kind_block true c = refl
  kind_block false true = refl
  kind_block false false = refl

  mutual
    stmt_marked : (s : Stmt) → AllMarked types facts (declared_by types facts modes (is_global globals) s) (marks_in facts s)
    stmt_marked (Do value) = tt
    stmt_marked (Idle node parts) = tt
    stmt_marked (Give node back value) = tt
    stmt_marked (Leave node leaving parts) = tt
    stmt_marked (Select node chooser tests blocks) = blocks_marked blocks
    stmt_marked (Loop node While head body) = all_marked body
    stmt_marked (Loop node (Count variable inclusive) head body) =
        (record { number = refl; of = refl; block = refl; of_loop = λ h. refl; hooked = λ h. never h }, all_marked body)
    stmt_marked (Loop node (OfEach variable) head body) = (
      record {
        number = refl;
        of = refl;
        block = refl;
        of_loop = λ h. refl;
        hooked = λ h. (and_parts (is_fresh head) (is_hooked facts variable.of) h).1;
      },
      all_marked body,
    )
    stmt_marked (Raise node exception message) = tt
    stmt_marked (Try node body handlers last) =
        both_marked (declared_in types facts modes (is_global globals) body) _ (marks_of facts body) _ (all_marked body)
        (both_marked (declared_in_handlers types facts modes (is_global globals) handlers) _ (marks_of_handlers facts handlers) _ (handlers_marked handlers)
        (all_marked last))

    pub all_marked : (b : Stmts) → AllMarked types facts (declared_in types facts modes (is_global globals) b) (marks_of facts b)
    all_marked Empty = tt
    all_marked (Then first rest) =
        both_marked (declared_by types facts modes (is_global globals) first) _ (marks_in facts first) _ (stmt_marked first) (all_marked rest)
    all_marked (Declare node place cursor value rest) = (
      record {
        number = refl;
        of = refl;
        block = kind_block (is_global globals place.number) cursor;
        of_loop = λ h. never h;
        hooked = λ h. never h;
      },
      all_marked rest,
    )
    all_marked (Defer node last rest) =
        both_marked (declared_in types facts modes (is_global globals) last) _ (marks_of facts last) _ (all_marked last) (all_marked rest)

    blocks_marked : (bs : Blocks) → AllMarked types facts (declared_in_blocks types facts modes (is_global globals) bs) (marks_of_blocks facts bs)
    blocks_marked (Otherwise block) = all_marked block
    blocks_marked (Block first rest) =
        both_marked (declared_in types facts modes (is_global globals) first) _ (marks_of facts first) _ (all_marked first) (blocks_marked rest)

    handlers_marked : (hs : Handlers) → AllMarked types facts (declared_in_handlers types facts modes (is_global globals) hs) (marks_of_handlers facts hs)
    handlers_marked NoHandler = tt
    handlers_marked (Handler kinds None body rest) =
        both_marked (declared_in types facts modes (is_global globals) body) _ (marks_of facts body) _ (all_marked body) (handlers_marked rest)
    handlers_marked (Handler kinds (Some name) body rest) = (
      record { number = refl; of = refl; block = refl; of_loop = λ h. never h; hooked = λ h. never h },
      both_marked (declared_in types facts modes (is_global globals) body) _ (marks_of facts body) _ (all_marked body) (handlers_marked rest),
    )

-- ---- where numbers rise, each number's mark is its own

abbrev pub IsOwn : List Mark → Mark → Type 0
IsOwn ms m = stood_by ms m.place.number ≡ m.stands

own_from : (types : List Ty) (facts : Facts) (from to : ℕ) (ps : List FlatPlace) (ms : List Mark) → AllMarked types facts ps ms →
    numbering.rise_to from to (numbers ps) ≡ true → Each (λ (m : Mark). (from ≤ m.place.number) × IsOwn ms m) ms
own_from types facts from to [] [] h r = tt
own_from types facts from to [] (m ∷ ms) h r = absurd h
own_from types facts from to (p ∷ ps) [] h r = absurd h
own_from types facts from to (p ∷ ps) (m ∷ ms) h r =
    let k = and_parts (nat_le from p.number) (numbering.rise_to (suc p.number) to (numbers ps)) r in
    let least = leb-true from p.number k.0 in
    let same = h.0.number in (
      (
        omega (arith, least, same),
        ap (λ b. if b then m.stands else stood_by ms m.place.number) (eq-eqb m.place.number m.place.number refl),
      ),
      later ms least same (own_from types facts (suc p.number) to ps ms h.1 k.1),
    )
  where
    later : (ks : List Mark) → from ≤ p.number → p.number ≡ m.place.number →
        Each (λ (k : Mark). (suc p.number ≤ k.place.number) × IsOwn ms k) ks → Each (λ (k : Mark). (from ≤ k.place.number) × IsOwn (m ∷ ms) k) ks
    later [] least same e = tt
    later (k ∷ ks) least same e =
        let behind = e.0.0 in (
          (
            omega (arith, least, behind),
            ap (λ b. if b then m.stands else stood_by ms k.place.number)
                (ne_eqb m.place.number k.place.number (λ is. absurd (omega (arith, same, behind, is)))) ∙ e.0.1,
          ),
          later ks least same e.1,
        )

own_alone : (from : ℕ) (all ms : List Mark) → Each (λ (m : Mark). (from ≤ m.place.number) × IsOwn all m) ms → Each (IsOwn all) ms
own_alone from all [] h = tt
own_alone from all (m ∷ ms) h = (h.0.1, own_alone from all ms h.1)

pub all_own : (types : List Ty) (facts : Facts) (from to : ℕ) (ps : List FlatPlace) (ms : List Mark) → AllMarked types facts ps ms →
    numbering.rise_to from to (numbers ps) ≡ true → Each (IsOwn ms) ms
all_own types facts from to ps ms h r = own_alone from ms ms (own_from types facts from to ps ms h r)

-- numbers that rise do so behind any of them
pub rise_behind : (from to : ℕ) (xs ys : List FlatPlace) → numbering.rise_to from to (numbers (xs ++ ys)) ≡ true →
    (least : ℕ) × (numbering.rise_to least to (numbers ys) ≡ true)
rise_behind from to [] ys h = (from, h)
rise_behind from to (x ∷ xs) ys h =
    rise_behind (suc x.number) to xs ys (and_parts (nat_le from x.number) (numbering.rise_to (suc x.number) to (numbers (xs ++ ys))) h).1
