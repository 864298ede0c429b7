-- What is known of the root and of the top stays where bodies are put behind others.
use Rattle.std.proofs.Common.{List, None, Some}
use Rattle.rdl_base.specs.declared.fault.Fault.{Fault}
use Rattle.rdl_tree.specs.declared.item.Source.{Source}
use Rattle.rdl_values.specs.Instances.{Instance}
use Rattle.rdl_values.specs.Top.{root}
use Rattle.std.specs.Prelude.{Option}
use Rattle.rdl_bodies.specs.Kept.{AreKept, Grows}
use Rattle.rdl_bodies.specs.declared.bodies.Bodies.{Bodies}
use Rattle.rdl_bodies.proofs.Growing.{at_same, begins_get, open_same, same_below}
use Rattle.rdl_elab.specs.Topped.{IsRootAt, IsTopAt, IsTopNode}
use Rattle.rdl_elab.specs.declared.surveyed.TopSite.{TopSite}

pub root_stays : (t u : Bodies) (held : List Fault) (s : Source) → AreKept t held → Grows t u → IsRootAt t s → IsRootAt u s
root_stays t u held s inv grown h =
    let low = (inv.bodies 0 h.body h.here).below in
    record {
      body = h.body;
      here = begins_get t.list.items u.list.items 0 h.body grown.list h.here;
      open_ = open_same t u h.body (root s) (same_below t u h.body.numbers.now inv.components inv.list grown low) h.open_;
    }

pub node_stays : (t u : Bodies) (held : List Fault) (x : TopSite) (n : Instance) → AreKept t held → Grows t u → IsTopNode t x n → IsTopNode u x n
node_stays t u held x n inv grown h =
    let low = (inv.sites x.site h.site h.here).below in
    record {
      path_is = h.path_is;
      inst_is = h.inst_is;
      alias_is = h.alias_is;
      name_is = h.name_is;
      site = h.site;
      here = begins_get t.sites.items u.sites.items x.site h.site grown.sites h.here;
      at = at_same t u h.site n.closure n.bound (same_below t u h.site.outer.now inv.components inv.list grown low) h.at;
    }

pub top_stays : (t u : Bodies) (held : List Fault) (r : Option TopSite) (ns : List Instance) → AreKept t held → Grows t u → IsTopAt t r ns → IsTopAt u r ns
top_stays t u held None ns inv grown h = h
top_stays t u held (Some x) ns inv grown h = (h.0, h.1, node_stays t u held x h.0 inv grown h.2)
