-- `host_totals::week::lumbixet_totals_page` meets its contract: its numbers are those of the answer that the call gives, and the lent buffer is as the call leaves it.
-- Assumes nothing.
use Rattle.host_totals.proofs.week.lumbixet_totals_page.Goals as goal

pub returns : goal.returns
returns c = (rw (c.page_out.ensures, c.put_page-answer.ensures.0), c.put_page-answer.ensures.1)
