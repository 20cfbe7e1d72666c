-- What a refusal of a module says.
use Rattle.std.proofs.Common.{◌≡◌, List, sym, subst}
use Rattle.arc_base.specs.declared.place.Place.{Place}
use Rattle.arc_base.specs.declared.place.Code.{Code}
use Rattle.arc_base.specs.declared.place.Code.TheVariants as C
use Rattle.arc_base.specs.declared.place.Stop.{Stop}
use Rattle.arc_base.specs.declared.place.Stop.TheVariants.{Refused, Memory}
use Rattle.arc_base.specs.Stops.{OnRefusal}
use Rattle.indent_scanner.specs.declared.token.Token.{Token}
use Rattle.parse_exprs.specs.Look.{Origin}
use Rattle.parse_decls.specs.Outcome.{Why, too_deep, left_out, stuck, tired, bad, Settles}
use Rattle.parse_decls.specs.Gives.{Tells, Fails}
use Rattle.parse_stmts.specs.Run.{run_module}
use Rattle.parse_stmts.specs.Parsed.{IsRefused}
use Rattle.parse_stmts.proofs.Verdicts.{module_stops, module_none}

refused_as : (x : Origin) (tokens : List Token) (at : Place) {c d : Code} → d ≡ c → IsRefused x tokens c at → IsRefused x tokens d at
refused_as x tokens at e h = subst (λ code. IsRefused x tokens code at) (sym e) h

module_told : (x : Origin) (tokens : List Token) (code : Code) (at : Place) (why : Why) → Settles (λ k. run_module k x tokens) (bad why) → Tells x why code at
    → IsRefused x tokens code at
module_told x tokens code at (too_deep rest) h t = refused_as x tokens at {c = C.NestTooDeep} t.0
    (record { whole = rest; deep = module_stops tt h; first = t.1 })
module_told x tokens code at (left_out rest) h t = refused_as x tokens at {c = C.LeftOut} t.0 (record { rest = rest; stops = module_stops tt h; first = t.1 })
module_told x tokens code at (stuck rest) h t = refused_as x tokens at {c = C.Syntax} t.0 (module_none rest h t.1)
module_told x tokens code at tired h t = absurd t

pub module_refused : (x : Origin) (tokens : List Token) (stop : Stop) → Fails (λ k. run_module k x tokens) x stop → OnRefusal stop (IsRefused x tokens)
module_refused x tokens (Refused code at) h = module_told x tokens code at h.why h.runs h.tells
module_refused x tokens Memory h = h
