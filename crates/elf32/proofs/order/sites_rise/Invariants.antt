use Rattle.std.proofs.Common.{◌≡◌, drop}
use Rattle.std.specs.Prelude.{None}
use Rattle.elf32.specs.Reading.{rises, site_before}
use Rattle.elf32.proofs.order.sites_rise.Given as goal

-- what is left decides
abbrev pub invariant-loop-site : goal.invariant-loop-site
invariant-loop-site l = rises site_before l.last (drop l.site-index l.sites) ≡ rises site_before None l.sites
