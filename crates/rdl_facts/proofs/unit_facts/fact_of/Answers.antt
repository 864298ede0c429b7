use Rattle.rdl_facts.proofs.unit_facts.fact_of.Goals as goal

pub returns-clause-fact : goal.returns-clause-fact
returns-clause-fact c = λ all n h kind text shown low wide. record {
  width_ = c.in_ok-width.ensures.width all n h kind text shown low;
  parts_ = c.has_parts.ensures all n h;
  entry_ = wide;
}
