-- The document's own output, computed. Assumes nothing.
use mathlib.Core.List.{flat_map}
use Rattle.std.proofs.Common.{◌≡◌, refl}
use Rattle.query.specs.Query.{query_table, checked, values_of, query_of}
use Rattle.report.specs.Lines.{verdict, line, asked, line_at, printed}
use Rattle.search.specs.Grown.{falsified, grow, game}
use Rattle.search.specs.Models.{value, part}
use Rattle.search.specs.Search.{visit, store, meet, test, judge, search as searched}
use Rattle.sheet.specs.Layout.{word}
use Rattle.sheet.specs.Literals.{signed, literal, is_literal, plains}
use Rattle.sheet.specs.Order.{taking, branch}
use Rattle.sheet.specs.Reading.{short, out_of_range, misplaced, bad_ends, bad_literal, bad_objective, table, read, sheet_of}
use Rattle.sheet.proofs.Worked.{sheet_a}
use Rattle.text.specs.Text.{letters, decimal, signed_decimal}
use Rattle.words.specs.Lists.{below}
use Rattle.words.specs.Positions.{has, within, strictly_within, adding, set_of}

-- "For sheet A the whole output is"
pub worked_output : printed sheet_a ≡ letters "sheet 3 2 3\n1 1 yes 11 1 0\n2 2 yes 10 1 0\n3 3 yes 24 2 1\n"
unfolding printed flat_map line_at asked line verdict decimal signed_decimal query_of checked query_table values_of table short out_of_range misplaced bad_ends bad_literal bad_objective read sheet_of word below signed literal is_literal searched judge test meet visit store game grow falsified plains set_of adding has within strictly_within branch taking part value
worked_output = refl
