use Rattle.std.proofs.Common.{◌≡◌, ◌+◌, ℕ, Option, Some, None, List, refl, ap}
use Rattle.vcd_reader.specs.declared.rows.Rows.{Rows}
use Rattle.vcd_reader.specs.Rows.{ClosesAt}
use Rattle.vcd_reader.proofs.rows.Rows.come.Goals as goal

times_kept : (last missing : Option ℕ) (old new : Rows) (now : List (Option ℕ)) → ClosesAt last missing old new now → new.times ≡ old.times
times_kept None missing old new now h = ap (λ r. r.times) h
times_kept (Some t) (Some i) old new now h = ap (λ r. r.times) h
times_kept (Some t) None old new now h = h.1

pub returns : goal.returns
returns c = record {
  closed = c.close.new.self;
  closes = c.in_ok-close.ensures;
  last = refl;
  times = ap (λ n. n + 1) (times_kept c.args.self.now.last c.args.self.now.missing c.args.self.now c.close.new.self c.args.now.now c.in_ok-close.ensures);
  values = refl;
  missing = refl;
}
