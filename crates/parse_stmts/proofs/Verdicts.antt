-- What a module comes to is its tree, or why it has none.
use Rattle.std.proofs.Common.{◌≡◌, List, [], ◌∷◌, refl, sym, ap, ◌∙◌, arith}
use Rattle.arc_base.specs.declared.place.Place.{Place}
use Rattle.arc_base.specs.declared.place.Code.{Code}
use Rattle.arc_base.specs.declared.place.Code.TheVariants.{Syntax, NestTooDeep, LeftOut}
use Rattle.indent_scanner.specs.declared.token.Token.{Token}
use Rattle.nim_tree.specs.Statements.{Statements}
use Rattle.parse_exprs.specs.Look.{Origin, place_at, next_at}
use Rattle.parse_exprs.specs.Parsed.{IsFirst}
use Rattle.parse_decls.specs.Outcome.{Why, too_deep, left_out, stuck, got, bad, Settles}
use Rattle.parse_decls.proofs.ForCallers.{settles_one, got_one, got_bad, bad_one}
use Rattle.parse_stmts.specs.Run.{run_module}
use Rattle.parse_stmts.specs.Grammar.{IsModule}
use Rattle.parse_stmts.specs.Faults.{FaultsModule}
use Rattle.parse_stmts.specs.Parsed.{OpensTooMany, IsLeftOut, HasNone, HasFew, IsRefused}
use Rattle.parse_stmts.proofs.Means.{IsLast, means_got, means_bad}
use Rattle.parse_stmts.proofs.Reading.{means_module}
use Rattle.parse_stmts.proofs.Complete.{module_is_read}
use Rattle.parse_stmts.proofs.FaultsComplete.{module_faults}
use Rattle.parse_stmts.proofs.Given.{laws}

pub module_read : {x : Origin} {tokens rest : List Token} {all : Statements} → Settles (λ k. run_module k x tokens) (got all rest) → IsModule x tokens all
module_read {x} {tokens} h = means_got (means_module laws h.steps x tokens) (h.same h.steps (omega arith))

pub module_stops : {x : Origin} {tokens : List Token} {why : Why} → IsLast why → Settles (λ k. run_module k x tokens) (bad why) → FaultsModule x why tokens
module_stops {x} {tokens} l h = means_bad (means_module laws h.steps x tokens) l (h.same h.steps (omega arith))

-- tokens are one tree at most
pub module_once : {x : Origin} {tokens : List Token} {t u : Statements} → IsModule x tokens t → IsModule x tokens u → t ≡ u
module_once d e = (got_one (settles_one (module_is_read laws d) (module_is_read laws e))).0

-- and they can't go on for one reason at most
pub module_fault : {x : Origin} {tokens : List Token} {v w : Why} → FaultsModule x v tokens → FaultsModule x w tokens → v ≡ w
module_fault f g = bad_one (settles_one (module_faults laws f) (module_faults laws g))

-- and then they are no tree
pub module_faulty : {C : Type 0} {x : Origin} {tokens : List Token} {all : Statements} {why : Why} → IsModule x tokens all → FaultsModule x why tokens → C
module_faulty d f = got_bad (settles_one (module_is_read laws d) (module_faults laws f))

stuck_deep : {C : Type 0} {r s : List Token} → too_deep r ≡ stuck s → C
stuck_deep e = cc

stuck_left_out : {C : Type 0} {r s : List Token} → left_out r ≡ stuck s → C
stuck_left_out e = cc

pub module_none : {x : Origin} {tokens : List Token} (rest : List Token) {at : Place} → Settles (λ k. run_module k x tokens) (bad (stuck rest))
    → at ≡ next_at x rest → HasNone x tokens at
module_none {x} rest {at} h n = (let f = module_stops tt h in record {
  rest = rest;
  stops = f;
  next = n;
  none = λ all d. module_faulty d f;
  shallow = λ p o. stuck_deep (module_fault o.deep f);
  used = λ p o. stuck_left_out (module_fault o.stops f);
})

-- ---- places

first_once : (x : Origin) (r s : List Token) {p q : Place} → r ≡ s → IsFirst x r p → IsFirst x s q → p ≡ q
first_once x [] s e f g = absurd f
first_once x (tok ∷ r) [] e f g = absurd g
first_once x (tok ∷ r) (other ∷ s) e f g = f ∙ ap (place_at x) (same e) ∙ sym g
  where
    same : {a b : Token} {r s : List Token} → a ∷ r ≡ b ∷ s → a ≡ b
    same e = cc

deep_at : {r s : List Token} → too_deep r ≡ too_deep s → r ≡ s
deep_at e = cc

left_out_one : {r s : List Token} → left_out r ≡ left_out s → r ≡ s
left_out_one e = cc

deep_left_out : {C : Type 0} {r s : List Token} → too_deep r ≡ left_out s → C
deep_left_out e = cc

pub deep_once : {x : Origin} {tokens : List Token} {p q : Place} → OpensTooMany x tokens p → OpensTooMany x tokens q → p ≡ q
deep_once {x} o u = first_once x o.whole u.whole (deep_at (module_fault o.deep u.deep)) o.first u.first

pub left_out_once : {x : Origin} {tokens : List Token} {p q : Place} → IsLeftOut x tokens p → IsLeftOut x tokens q → p ≡ q
left_out_once {x} o u = first_once x o.rest u.rest (left_out_one (module_fault o.stops u.stops)) o.first u.first

stuck_one : {r s : List Token} → stuck r ≡ stuck s → r ≡ s
stuck_one e = cc

pub none_once : {x : Origin} {tokens : List Token} {p q : Place} → HasNone x tokens p → HasNone x tokens q → p ≡ q
none_once {x} o u = o.next ∙ ap (next_at x) (stuck_one (module_fault o.stops u.stops)) ∙ sym u.next

pub never_both : {C : Type 0} {x : Origin} {tokens : List Token} {p q : Place} → OpensTooMany x tokens p → IsLeftOut x tokens q → C
never_both o u = deep_left_out (module_fault o.deep u.stops)

-- a refusal has one code and one place
pub refused_once : (x : Origin) (tokens : List Token) (c d : Code) (p q : Place) → IsRefused x tokens c p → IsRefused x tokens d q → (c ≡ d) × (p ≡ q)
refused_once x tokens Syntax Syntax p q r s = (refl, none_once r s)
refused_once x tokens Syntax NestTooDeep p q r s = absurd (r.shallow q s)
refused_once x tokens Syntax LeftOut p q r s = absurd (r.used q s)
refused_once x tokens Syntax _ p q r s = absurd s
refused_once x tokens NestTooDeep Syntax p q r s = absurd (s.shallow p r)
refused_once x tokens NestTooDeep NestTooDeep p q r s = (refl, deep_once r s)
refused_once x tokens NestTooDeep LeftOut p q r s = never_both r s
refused_once x tokens NestTooDeep _ p q r s = absurd s
refused_once x tokens LeftOut Syntax p q r s = absurd (s.used p r)
refused_once x tokens LeftOut NestTooDeep p q r s = never_both s r
refused_once x tokens LeftOut LeftOut p q r s = (refl, left_out_once r s)
refused_once x tokens LeftOut _ p q r s = absurd s
refused_once x tokens _ d p q r s = absurd r

-- a tree isn't refused
pub module_stands : {x : Origin} {tokens : List Token} {all : Statements} (code : Code) (at : Place) → IsModule x tokens all → HasFew all
    → IsRefused x tokens code at → ⊥
module_stands Syntax at d few r = r.none _ d
module_stands NestTooDeep at d few r = module_faulty d r.deep
module_stands LeftOut at d few r = module_faulty d r.stops
module_stands _ at d few r = r
