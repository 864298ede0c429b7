use Rattle.rb_edge.proofs.Flowing.{sent, cut_short, whole_of, part_of, rose_of}
use Rattle.wave_text.proofs.table.write_table.Goals as goal

pub returns-in_err-put_table-clause-whole : goal.returns-in_err-put_table-clause-whole
returns-in_err-put_table-clause-whole g c = whole_of c.from_residual.result (cut_short c.from_residual.result c.from_residual.ensures.0 c.new-page.ensures c.in_err-put_table.ensures)

pub returns-in_err-put_table-clause-part : goal.returns-in_err-put_table-clause-part
returns-in_err-put_table-clause-part g c = part_of c.from_residual.result (cut_short c.from_residual.result c.from_residual.ensures.0 c.new-page.ensures c.in_err-put_table.ensures)

pub returns-in_err-put_table-clause-later : goal.returns-in_err-put_table-clause-later
returns-in_err-put_table-clause-later g c = c.in_err-put_table.ensures.later

pub returns-in_err-put_table-clause-failed : goal.returns-in_err-put_table-clause-failed
returns-in_err-put_table-clause-failed g c = rose_of c.from_residual.result (cut_short c.from_residual.result c.from_residual.ensures.0 c.new-page.ensures c.in_err-put_table.ensures)

pub returns-clause-whole : goal.returns-clause-whole
returns-clause-whole g c = whole_of c.flush.result (sent c.new-page.ensures c.in_ok-put_table.ensures c.flush.ensures.flows c.flush.ensures.empty)

pub returns-clause-part : goal.returns-clause-part
returns-clause-part g c = part_of c.flush.result (sent c.new-page.ensures c.in_ok-put_table.ensures c.flush.ensures.flows c.flush.ensures.empty)

pub returns-clause-later : goal.returns-clause-later
returns-clause-later g c = (sent c.new-page.ensures c.in_ok-put_table.ensures c.flush.ensures.flows c.flush.ensures.empty).later

pub returns-clause-failed : goal.returns-clause-failed
returns-clause-failed g c = rose_of c.flush.result (sent c.new-page.ensures c.in_ok-put_table.ensures c.flush.ensures.flows c.flush.ensures.empty)
