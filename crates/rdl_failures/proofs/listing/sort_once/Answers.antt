use Rattle.std.proofs.lemmas.List.Filters.{dedup_is}
use Rattle.rdl_failures.proofs.listing.sort_once.Goals as goal

pub returns : goal.returns
returns g c = record {
  sorted = record {
    sorted = c.sort.new.self.items;
    same = c.in_ok-sort.ensures.permutation;
    rises = c.in_ok-sort.ensures.sorted;
    once = dedup_is _ _ _ c.dedup.ensures.filtered;
  };
  equivalence = g.met.T.Eq.laws;
  ties = g.met.T.Ord.matches_eq;
}
