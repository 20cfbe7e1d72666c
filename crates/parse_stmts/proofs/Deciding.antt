-- What reading a module comes to in the end is its tree, or why it has none.
use Rattle.std.proofs.Common.{◌≡◌, ℕ, List, [], ◌∷◌, refl, arith}
use Rattle.arc_base.specs.declared.place.Code.TheVariants.{Syntax, NestTooDeep, LeftOut}
use Rattle.indent_scanner.specs.declared.token.Token.{Token}
use Rattle.nim_tree.specs.Statements.{Statements}
use Rattle.parse_exprs.specs.Look.{Origin, place_at, next_at}
use Rattle.parse_decls.specs.Ends.{HasPlace, Ends, e_read, e_not, enough}
use Rattle.parse_decls.specs.Outcome.{Why, too_deep, left_out, stuck, tired, Out}
use Rattle.parse_stmts.specs.Faults.{FaultsModule}
use Rattle.parse_stmts.specs.Run.{run_module}
use Rattle.parse_stmts.specs.Total.{Decided, is_tree, is_refused}
use Rattle.parse_stmts.proofs.Depth.{module_few}
use Rattle.parse_stmts.proofs.Ending.{ends_module}
use Rattle.parse_stmts.proofs.FaultsComplete.{module_faults}
use Rattle.parse_stmts.proofs.Given.{laws}
use Rattle.parse_stmts.proofs.Means.{IsLast, means_got, means_bad}
use Rattle.parse_stmts.proofs.Reading.{means_module}
use Rattle.parse_stmts.proofs.Verdicts.{module_none}

last : (why : Why) → HasPlace why → IsLast why
last (too_deep at) p = tt
last (left_out at) p = tt
last (stuck at) p = tt
last tired p = absurd p

-- a refusal names a place
refused_at : (x : Origin) (tokens : List Token) (why : Why) → HasPlace why → FaultsModule x why tokens → Decided x tokens
refused_at x tokens (too_deep []) p f = absurd (omega (arith, p))
refused_at x tokens (too_deep (tok ∷ ts)) p f = is_refused NestTooDeep (place_at x tok) (record { whole = tok ∷ ts; deep = f; first = refl })
refused_at x tokens (left_out []) p f = absurd (omega (arith, p))
refused_at x tokens (left_out (tok ∷ ts)) p f = is_refused LeftOut (place_at x tok) (record { rest = tok ∷ ts; stops = f; first = refl })
refused_at x tokens (stuck rest) p f = is_refused Syntax (next_at x rest) (module_none rest (module_faults laws f) refl)
refused_at x tokens tired p f = absurd p

decided_by : {m : ℕ} {o : Out Statements} (x : Origin) (tokens : List Token) (k : ℕ) → run_module k x tokens ≡ o → Ends m o → Decided x tokens
decided_by x tokens k e (e_read lt) = let d = means_got (means_module laws k x tokens) e in is_tree d (module_few d)
decided_by x tokens k e (e_not {why = why} p) = refused_at x tokens why p (means_bad (means_module laws k x tokens) (last why p) e)

pub module_decided : (x : Origin) (tokens : List Token) → Decided x tokens
module_decided x tokens = decided_by x tokens (enough tokens) refl (ends_module (enough tokens) x tokens (omega arith))
