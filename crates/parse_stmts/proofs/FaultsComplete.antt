-- Where statements with blocks can't go on, reading says so.
use Rattle.std.proofs.Common.{◌≡◌, ℕ, zero, List, [], ◌∷◌, Bool, true, false, refl, ap, subst}
use Rattle.std.specs.Prelude.{◌<◌, if◌then◌else◌}
use Rattle.arc_base.specs.declared.place.Place.{Place}
use Rattle.indent_scanner.specs.declared.token.Token.{Token}
use Rattle.nim_tree.specs.Terms.{Term, levels, place_of}
use Rattle.nim_tree.specs.Statements.{Statements, Branches, Handlers, evaluates, and_statement, no_branches, no_handlers, empty}
use Rattle.parse_exprs.specs.declared.layout.Layout.TheVariants.{Lines}
use Rattle.parse_exprs.specs.Look.{Origin, first_of_at}
use Rattle.parse_decls.specs.Outcome.{Why, too_deep, stuck_at, bad, Settles}
use Rattle.parse_decls.specs.Grammar.{e_first}
use Rattle.parse_decls.proofs.ForCallers.{settles_got, settles_is, settles_then, settles_bad, settles_unless, settles_stuck, settles_if, settles_else}
use Rattle.parse_decls.proofs.ForCallers.{settles_why}
use Rattle.parse_stmts.specs.declared.look.Lead.{Lead}
use Rattle.parse_stmts.specs.declared.look.Lead.TheVariants as L
use Rattle.parse_stmts.specs.Look.{chooses, opens_block, lead}
use Rattle.parse_stmts.specs.Run.{run_statements, run_statement, run_led, run_compound, run_body, run_block, run_branch, run_elifs, run_else, run_branches}
use Rattle.parse_stmts.specs.Run.{run_of, run_ofs, run_handler, run_handlers, run_finally, run_module}
use Rattle.parse_stmts.specs.Grammar.{IsLine, l_last, l_more, IsStatement, s_line, s_alone, s_choice, s_compound, r_branch, r_of}
use Rattle.parse_stmts.specs.Faults.{FaultsStatements, f_statement, f_next_statement, f_no_end, FaultsStatement, f_one_line, f_alone, f_choice, f_compound}
use Rattle.parse_stmts.specs.Faults.{FaultsCompound, f_if, f_elifs, f_if_else, f_case, f_branches, f_while, f_while_body, f_for, f_no_in, f_course, f_for_body}
use Rattle.parse_stmts.specs.Faults.{f_try, f_handlers, f_finally, f_try_alone, f_defer, f_head, f_proc_body, f_types, f_section, FaultsBody, f_no_colon}
use Rattle.parse_stmts.specs.Faults.{f_body, FaultsBlock, f_no_level, f_no_start, f_no_block, f_line_block, f_deeper_block, FaultsBranch, f_condition}
use Rattle.parse_stmts.specs.Faults.{f_branch_body, FaultsElifs, f_elif, f_next_elif, FaultsElse, f_else, FaultsBranches, f_no_of, f_ofs, f_of_else, FaultsOf}
use Rattle.parse_stmts.specs.Faults.{f_of_line, f_of_label, f_of_labels, f_of_body, FaultsOfs, f_of, f_next_of, FaultsHandler, f_bare, f_names, f_alias}
use Rattle.parse_stmts.specs.Faults.{f_handler_body, FaultsHandlers, f_handler, f_next_handler, FaultsFinally, f_finally_body, FaultsModule, f_statements}
use Rattle.parse_stmts.specs.Faults.{f_rest}
use Rattle.parse_stmts.proofs.Means.{settles_next}
use Rattle.parse_stmts.specs.Alone.{IsAlone}
use Rattle.parse_stmts.proofs.OnlyExpr.{alone_none, alone_faults}
use Rattle.parse_stmts.proofs.Leaves.{Laws}
use Rattle.parse_stmts.proofs.LeavesComplete.{settles_at, here_read, here_faults, line_faults, label_read, label_faults, labels_read, labels_faults}
use Rattle.parse_stmts.proofs.LeavesComplete.{course_read, course_faults, alias_read, alias_faults}
use Rattle.parse_stmts.proofs.Reading.{HasBlocks}
use Rattle.parse_stmts.proofs.Complete.{BeginsBlocks, with_blocks, no_choice, statements_read, statement_read, body_read, branch_read, elifs_read}
use Rattle.parse_stmts.proofs.Complete.{of_read, ofs_read, handler_read, handlers_read, finally_read}

-- ---- the same behind other statements

record Rebased (x : Origin) (n left : ℕ) (some : Statements) (ts rest : List Token) : Type 0 where
  all : Statements
  is : IsStatement x n left some all ts rest

record RebasedLine (x : Origin) (n : ℕ) (some : Statements) (ts rest : List Token) : Type 0 where
  all : Statements
  is : IsLine x n some all ts rest

rebased_line : {x : Origin} {n : ℕ} {old all : Statements} {ts rest : List Token} → (some : Statements) → IsLine x n old all ts rest
    → RebasedLine x n some ts rest
rebased_line some (l_last {s = s} d e) = record { all = and_statement some s; is = l_last d e }
rebased_line some (l_more {s = s} d e h m) = let r = rebased_line (and_statement some s) m in record { all = r.all; is = l_more d e h r.is }

rebased : {x : Origin} {n left : ℕ} {old all : Statements} {ts rest : List Token} → (some : Statements) → IsStatement x n left old all ts rest
    → Rebased x n left some ts rest
rebased some (s_line e d) = let r = rebased_line some d in record { all = r.all; is = s_line e r.is }
rebased some (s_alone {a = a} c d few) = record { all = and_statement some (evaluates (place_of a) a); is = s_alone c d few }
rebased some (s_choice {s = s} c w d) = record { all = and_statement some s; is = s_choice c w d }
rebased some (s_compound {s = s} c d) = record { all = and_statement some s; is = s_compound c d }

-- ---- by cases

led_faults : {x : Origin} {n left : ℕ} {tok : Token} {ts : List Token} {why : Why} (it : Lead) (some : Statements) → HasBlocks it
    → BeginsBlocks (lead n tok ts) x n (tok ∷ ts) → lead n tok ts ≡ it
    → Settles (λ k. run_compound k it x n left tok ts) (bad why) → Settles (λ k. run_statement k x n left some (tok ∷ ts)) (bad why)
led_faults L.Line some b w e h = absurd b
led_faults {x} {n} {left} {tok} {ts} L.If some b w e h =
    settles_next
    (settles_at (λ it k. run_led k it x n left some tok ts) e
    (settles_next (settles_then _ (alone_none (subst (λ (l : Lead). BeginsBlocks l x n (tok ∷ ts)) e w)) (settles_next (settles_bad _ h)))))
led_faults {x} {n} {left} {tok} {ts} L.Case some b w e h =
    settles_next
    (settles_at (λ it k. run_led k it x n left some tok ts) e
    (settles_next (settles_then _ (alone_none (subst (λ (l : Lead). BeginsBlocks l x n (tok ∷ ts)) e w)) (settles_next (settles_bad _ h)))))
led_faults {x} {n} {left} {tok} {ts} it some b w e h = settles_next (settles_at (λ it k. run_led k it x n left some tok ts) e (settles_next (settles_bad _ h)))

-- an expression alone on its line has a level too many
deep_alone : {x : Origin} {n left : ℕ} {a : Term} {tok : Token} {ts rest : List Token} (it : Lead) (some : Statements) → chooses it ≡ true → lead n tok ts ≡ it
    → IsAlone x n a (tok ∷ ts) rest → 64 < levels a
    → Settles (λ k. run_statement k x n left some (tok ∷ ts)) (bad (too_deep (tok ∷ ts)))
deep_alone {x} {n} {left} {tok = tok} {ts = ts} L.If some c e d many =
    settles_next (settles_at (λ it k. run_led k it x n left some tok ts) e (settles_next (settles_bad _ (alone_faults d many))))
deep_alone {x} {n} {left} {tok = tok} {ts = ts} L.Case some c e d many =
    settles_next (settles_at (λ it k. run_led k it x n left some tok ts) e (settles_next (settles_bad _ (alone_faults d many))))
deep_alone _ some c e d many = cc

no_level : (x : Origin) (n : ℕ) (ts : List Token) (b : Bool) → opens_block x n ts ≡ b → Settles (λ k. run_block k x n zero ts)
    (bad (if b then too_deep ts else stuck_at ts))
no_level x n ts b e = settles_next (settles_is settles_got (λ k. ap (λ b. bad (if b then too_deep ts else stuck_at ts)) e))

no_of : (x : Origin) (n left : ℕ) (tok : Token) (a : Term) (mid : List Token) → first_of_at (Lines n) mid ≡ false
    → Settles (λ k. run_branches k x n left tok a mid) (bad (stuck_at mid))
no_of x n left tok a [] e = settles_next settles_got
no_of x n left tok a (first ∷ mid) e = settles_next (settles_stuck _ _ e)

-- ---- statements

mutual
  pub statements_faults : {x : Origin} {why : Why} {n left : ℕ} {ts : List Token} → Laws → (some : Statements) → FaultsStatements x why n left ts
      → Settles (λ k. run_statements k x n left some ts) (bad why)
  statements_faults law some (f_statement e w) = settles_next (settles_if _ e (settles_bad _ (statement_faults law some w)))
  statements_faults law some (f_next_statement e d w) =
      let r = rebased some d in settles_next (settles_if _ e (settles_then _ (statement_read law r.is) (statements_faults law r.all w)))
  statements_faults law some (f_no_end e h q) = settles_next (settles_else _ e (settles_why q (settles_stuck _ _ h)))

  statement_faults : {x : Origin} {why : Why} {n left : ℕ} {ts : List Token} → Laws → (some : Statements) → FaultsStatement x why n left ts
      → Settles (λ k. run_statement k x n left some ts) (bad why)
  statement_faults {x} {n = n} {left = left} law some (f_one_line {tok = tok} {ts = ts} e w) =
      settles_next (settles_at (λ it k. run_led k it x n left some tok ts) e (settles_next (line_faults law some w)))
  statement_faults law some (f_alone c d many q) = settles_why q (deep_alone _ some c refl d many)
  statement_faults {x} {n = n} law some (f_choice {tok = tok} {ts = ts} c w d) = compound_faults law some (with_blocks (lead n tok ts) x n (tok ∷ ts) w) d
  statement_faults {x} {n = n} law some (f_compound {tok = tok} {ts = ts} c d) = compound_faults law some (no_choice (lead n tok ts) x n (tok ∷ ts) c) d

  compound_faults : {x : Origin} {why : Why} {n left : ℕ} {tok : Token} {ts : List Token} → Laws → (some : Statements)
      → BeginsBlocks (lead n tok ts) x n (tok ∷ ts)
      → FaultsCompound x why n left (tok ∷ ts) → Settles (λ k. run_statement k x n left some (tok ∷ ts)) (bad why)
  compound_faults law some v (f_if e w) = led_faults L.If some tt v e (settles_next (settles_next (settles_bad _ (branch_faults law no_branches _ w))))
  compound_faults law some v (f_elifs e b w) =
      led_faults L.If some tt v e (settles_next (settles_next (settles_then _ (branch_read law b) (settles_bad _ (elifs_faults law _ w)))))
  compound_faults law some v (f_if_else e b m w) =
      led_faults L.If some tt v e
      (settles_next (settles_next (settles_then _ (branch_read law b) (settles_then _ (elifs_read law m) (settles_bad _ (else_faults law w))))))
  compound_faults law some v (f_case e w) = led_faults L.Case some tt v e (settles_next (settles_next (settles_bad _ (here_faults law w))))
  compound_faults law some v (f_branches e h w) =
      led_faults L.Case some tt v e (settles_next (settles_next (settles_then _ (here_read law h) (branches_faults law _ w))))
  compound_faults law some v (f_while e w) = led_faults L.While some tt v e (settles_next (settles_bad _ (here_faults law w)))
  compound_faults law some v (f_while_body e h w) =
      led_faults L.While some tt v e (settles_next (settles_then _ (here_read law h) (settles_bad _ (body_faults law w))))
  compound_faults {x} {n = n} law some v (f_for {ts = ts} e w) =
      led_faults L.For some tt v e (settles_next (settles_bad _ ((law.name x (Lines n)).faults _ ts w)))
  compound_faults law some v (f_no_in e d g q) =
      led_faults L.For some tt v e (settles_next (settles_then _ ((law.name _ _).complete _ _ _ d) (settles_why q (settles_stuck _ _ g))))
  compound_faults law some v (f_course e d g w) =
      led_faults L.For some tt v e (settles_next (settles_then _ ((law.name _ _).complete _ _ _ d) (settles_unless _ g (settles_bad _ (course_faults law w)))))
  compound_faults law some v (f_for_body e d g c w) =
      led_faults L.For some tt v e
      (settles_next
      (settles_then _ ((law.name _ _).complete _ _ _ d) (settles_unless _ g (settles_then _ (course_read law c) (settles_bad _ (body_faults law w))))))
  compound_faults law some v (f_try e w) = led_faults L.Try some tt v e (settles_next (settles_next (settles_bad _ (body_faults law w))))
  compound_faults law some v (f_handlers e b w) =
      led_faults L.Try some tt v e (settles_next (settles_next (settles_then _ (body_read law b) (settles_bad _ (handlers_faults law no_handlers w)))))
  compound_faults law some v (f_finally e b m w) =
      led_faults L.Try some tt v e
      (settles_next (settles_next (settles_then _ (body_read law b) (settles_then _ (handlers_read law m) (settles_bad _ (finally_faults law w))))))
  compound_faults law some v (f_try_alone e b m f g q) =
      led_faults L.Try some tt v e
      (settles_next
      (settles_next
      (settles_then _ (body_read law b)
      (settles_then _ (handlers_read law m) (settles_then _ (finally_read law f) (settles_why q (settles_stuck _ _ g)))))))
  compound_faults law some v (f_defer e w) = led_faults L.Defer some tt v e (settles_next (settles_bad _ (body_faults law w)))
  compound_faults law some v (f_head e w) = led_faults L.Proc some tt v e (settles_next (settles_next (settles_bad _ ((law.head _ _).faults _ _ w))))
  compound_faults law some v (f_proc_body e h g w) =
      led_faults L.Proc some tt v e
      (settles_next (settles_next (settles_then _ ((law.head _ _).complete _ _ _ h) (settles_if _ g (settles_bad _ (block_faults law w))))))
  compound_faults law some v (f_types e w) = led_faults L.Type some tt v e (settles_next (settles_bad _ ((law.types _ _).faults _ _ w)))
  compound_faults law some v (f_section e w) = led_faults L.Section some tt v e (settles_next (settles_bad _ ((law.definitions _ _).faults _ _ w)))

  body_faults : {x : Origin} {why : Why} {n left : ℕ} {ts : List Token} → Laws → FaultsBody x why n left ts → Settles (λ k. run_body k x n left ts) (bad why)
  body_faults law (f_no_colon e q) = settles_next (settles_why q (settles_stuck _ _ e))
  body_faults law (f_body e w) = settles_next (settles_unless _ e (block_faults law w))

  block_faults : {x : Origin} {why : Why} {n left : ℕ} {ts : List Token} → Laws → FaultsBlock x why n left ts → Settles (λ k. run_block k x n left ts) (bad why)
  block_faults law (f_no_level e q) = settles_why q (no_level _ _ _ true e)
  block_faults law (f_no_start e q) = settles_why q (no_level _ _ _ false e)
  block_faults law (f_no_block e h q) = settles_next (settles_else _ e (settles_why q (settles_stuck _ _ h)))
  block_faults law (f_line_block e w) = settles_next (settles_if _ e (line_faults law empty w))
  block_faults law (f_deeper_block e h w) = settles_next (settles_else _ e (settles_unless _ h (statements_faults law empty w)))

  branch_faults : {x : Origin} {why : Why} {n left : ℕ} {ts : List Token} → Laws → (some : Branches) (at : Place) → FaultsBranch x why n left ts
      → Settles (λ k. run_branch k x n left some at ts) (bad why)
  branch_faults law some at (f_condition w) = settles_next (settles_bad _ (here_faults law w))
  branch_faults law some at (f_branch_body h w) = settles_next (settles_then _ (here_read law h) (settles_bad _ (body_faults law w)))

  elifs_faults : {x : Origin} {why : Why} {n left : ℕ} {ts : List Token} → Laws → (some : Branches) → FaultsElifs x why n left ts
      → Settles (λ k. run_elifs k x n left some ts) (bad why)
  elifs_faults law some (f_elif e w) = settles_next (settles_if _ e (settles_bad _ (branch_faults law some _ w)))
  elifs_faults law some (f_next_elif e (r_branch h b) w) =
      settles_next (settles_if _ e (settles_then _ (branch_read law (r_branch h b)) (elifs_faults law _ w)))

  else_faults : {x : Origin} {why : Why} {n left : ℕ} {ts : List Token} → Laws → FaultsElse x why n left ts → Settles (λ k. run_else k x n left ts) (bad why)
  else_faults law (f_else e w) = settles_next (settles_if _ e (body_faults law w))

  branches_faults : {x : Origin} {why : Why} {a : Term} {n left : ℕ} {mid : List Token} → Laws → (tok : Token) → FaultsBranches x why n left mid
      → Settles (λ k. run_branches k x n left tok a mid) (bad why)
  branches_faults law tok (f_no_of e h) = settles_why h (no_of _ _ _ tok _ _ e)
  branches_faults law tok (f_ofs e w) = settles_next (settles_unless _ e (settles_bad _ (ofs_faults law no_branches w)))
  branches_faults law tok (f_of_else e m w) = settles_next (settles_unless _ e (settles_then _ (ofs_read law m) (settles_bad _ (else_faults law w))))

  of_faults : {x : Origin} {why : Why} {n left : ℕ} {ts : List Token} → Laws → (some : Branches) (at : Place) → FaultsOf x why n left ts
      → Settles (λ k. run_of k x n left some at ts) (bad why)
  of_faults law some at (f_of_line e q) = settles_next (settles_why q (settles_stuck _ _ e))
  of_faults law some at (f_of_label e w) = settles_next (settles_unless _ e (settles_bad _ (label_faults law w)))
  of_faults law some at (f_of_labels e d w) = settles_next (settles_unless _ e (settles_then _ (label_read law d) (settles_bad _ (labels_faults law _ w))))
  of_faults law some at (f_of_body e d m w) =
      settles_next (settles_unless _ e (settles_then _ (label_read law d) (settles_then _ (labels_read law m) (settles_bad _ (body_faults law w)))))

  ofs_faults : {x : Origin} {why : Why} {n left : ℕ} {ts : List Token} → Laws → (some : Branches) → FaultsOfs x why n left ts
      → Settles (λ k. run_ofs k x n left some ts) (bad why)
  ofs_faults law some (f_of e w) = settles_next (settles_if _ e (settles_bad _ (of_faults law some _ w)))
  ofs_faults law some (f_next_of e (r_of h d m b) w) = settles_next (settles_if _ e (settles_then _ (of_read law (r_of h d m b)) (ofs_faults law _ w)))

  handler_faults : {x : Origin} {why : Why} {n left : ℕ} {ts : List Token} → Laws → FaultsHandler x why n left ts
      → Settles (λ k. run_handler k x n left ts) (bad why)
  handler_faults law (f_bare c w) = settles_next (settles_then _ (settles_if _ c settles_got) (settles_bad _ (body_faults law w)))
  handler_faults law (f_names c w) = settles_next (settles_bad _ (settles_else _ c ((law.names _ _).faults _ _ w)))
  handler_faults {x} {n = n} law (f_alias c (e_first f t) w) =
      settles_next (settles_then _ (settles_else _ c ((law.names _ _).complete _ _ _ (e_first f t))) (settles_bad _ (alias_faults law x n w)))
  handler_faults law (f_handler_body c (e_first f t) l w) =
      settles_next (settles_then _ (settles_else _ c ((law.names _ _).complete _ _ _ (e_first f t)))
      (settles_then _ (alias_read law l) (settles_bad _ (body_faults law w))))

  handlers_faults : {x : Origin} {why : Why} {n left : ℕ} {ts : List Token} → Laws → (some : Handlers) → FaultsHandlers x why n left ts
      → Settles (λ k. run_handlers k x n left some ts) (bad why)
  handlers_faults law some (f_handler e w) = settles_next (settles_if _ e (settles_bad _ (handler_faults law w)))
  handlers_faults law some (f_next_handler e h g w) =
      settles_next (settles_if _ e (settles_then _ (handler_read law h) (settles_if _ g (handlers_faults law _ w))))

  finally_faults : {x : Origin} {why : Why} {n left : ℕ} {ts : List Token} → Laws → FaultsFinally x why n left ts
      → Settles (λ k. run_finally k x n left ts) (bad why)
  finally_faults law (f_finally_body e w) = settles_next (settles_if _ e (body_faults law w))

pub module_faults : {x : Origin} {why : Why} {tokens : List Token} → Laws → FaultsModule x why tokens → Settles (λ k. run_module k x tokens) (bad why)
module_faults law (f_statements w) = settles_bad _ (statements_faults law empty w)
module_faults law (f_rest d e q) = settles_then _ (statements_read law d) (settles_why q (settles_stuck _ _ e))
