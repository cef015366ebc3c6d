-- The examples of the week's totals: antt computes both sides.
-- Assumes nothing.
use mathlib.Core.Path.{refl}
use Rattle.wire.specs.Fields.{read_fixed}
use Rattle.wire.specs.Numbers.{first_from, read_form, read_number}
use Rattle.entries.specs.Entries.{records_good}
use Rattle.report.specs.Header.{judge, judge_later, header_of, empty_header}
use Rattle.report.specs.Reader.{numbers_from, judge_entries, report_reading, report_of, entries_in}
use Rattle.decimal.specs.Decimal.{places_from, places_of, decimal}
use Rattle.totals.specs.Totals.{number_of, accepted, how_many, summed, records_with, part_in, sum_at, listed, totals_of}
use Rattle.totals.specs.Files.{cut_from}
use Rattle.page.specs.Page.{name_of, line, is_shown, shown, lines_from}
use Rattle.page.specs.Settled.{Pages, Edges}

pub pages : Pages
unfolding first_from read_fixed read_form read_number records_good judge judge_later header_of empty_header numbers_from judge_entries report_reading report_of entries_in places_from places_of decimal number_of accepted how_many summed records_with part_in sum_at listed totals_of cut_from name_of line is_shown shown lines_from
pages = record { nothing = refl; two = refl; early-report = refl; early-length = refl }

pub edges : Edges
edges = record { at = (refl, refl); past = (refl, refl) }
