use Rattle.std.proofs.Common.{◌==◌, refl, ap, ◌∙◌}
use Rattle.std.specs.Prelude.{is_some}
use Rattle.rtl_net.specs.Value.{bit_of}
use Rattle.rtl_net.proofs.Nets.{Grows-trans, IsNode-grows}
use Rattle.rb_model.specs.Run.{word_at}
use Rattle.axi_model.specs.Channels.{reads, writes}
use Rattle.gen_channels.specs.Nodes.{kept_seen, pins_seen}
use Rattle.gen_channels.specs.Slaves.{address_seen}
use Rattle.gen_channels.proofs.Accessing.{hit_seen, is_request}
use Rattle.gen_channels.proofs.Growing.{channels-grows}
use Rattle.gen_channels.proofs.access.requested.Goals as goal

pub whole-requires : goal.whole-requires
whole-requires c = channels-grows c.args.net.now c.word_node.new.net c.args.kept (Grows-trans c.args.net.now c.address.new.net c.word_node.new.net c.address.ensures.older c.word_node.ensures.older) c.requires.kept

pub valid-requires-clause-writes : goal.valid-requires-clause-writes
valid-requires-clause-writes c = IsNode-grows c.args.net.now c.whole.new.net c.args.acts.writes 1 (λ v. bit_of (writes (pins_seen v) (kept_seen v)))
    (Grows-trans c.args.net.now c.word_node.new.net c.whole.new.net (Grows-trans c.args.net.now c.address.new.net c.word_node.new.net c.address.ensures.older c.word_node.ensures.older) c.whole.ensures.older) c.requires.acts.writing

pub valid-requires-clause-reads : goal.valid-requires-clause-reads
valid-requires-clause-reads c = IsNode-grows c.args.net.now c.whole.new.net c.args.acts.reads 1 (λ v. bit_of (reads (pins_seen v) (kept_seen v)))
    (Grows-trans c.args.net.now c.word_node.new.net c.whole.new.net (Grows-trans c.args.net.now c.address.new.net c.word_node.new.net c.address.ensures.older c.word_node.ensures.older) c.whole.ensures.older) c.requires.acts.reading

pub valid-requires-clause-hit : goal.valid-requires-clause-hit
valid-requires-clause-hit c = IsNode-grows c.word_node.new.net c.whole.new.net c.in_ok-found.found.hit 1 (λ v. bit_of (is_some (word_at c.args.block.now.reads (address_seen v)))) c.whole.ensures.older
    (hit_seen c.args.block.now c.address.new.net c.word_node.new.net c.in_ok-address.address c.in_ok-found.found c.word_node.ensures.older c.in_ok-address.ensures.address c.in_ok-found.ensures.word)

pub returns-clause-request : goal.returns-clause-request
returns-clause-request c = is_request c.args.block.now c.requires.sound c.args.net.now c.address.new.net c.word_node.new.net c.whole.new.net c.valid.new.net c.args.kept c.args.acts c.in_ok-address.address c.in_ok-found.found
    (record { inlet = record { valid = c.in_ok-valid.valid; write = c.args.acts.writes; word = c.in_ok-found.found.word; bits = c.args.kept.wdata }; hit = c.in_ok-found.found.hit; whole = c.in_ok-whole.whole })
    c.requires.kept c.requires.acts c.address.ensures.older c.word_node.ensures.older c.whole.ensures.older c.valid.ensures.older c.in_ok-address.ensures.address c.in_ok-found.ensures.word c.in_ok-whole.ensures.whole c.in_ok-valid.ensures.valid refl refl refl refl
