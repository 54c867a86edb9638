-- Reading, running and painting two small jobs: everything computes.
use Rattle.std.proofs.Common.{refl}
use Rattle.lexer.specs.Reading.{finished, begun, goes_on, with_byte, is_between, pieces, cannot_read, same_word, as_operator, place_of, with_word, word_limit, words_after, above_limit, as_token, build, unless}
use Rattle.tokens.specs.Token.{number_of, turned}
use Rattle.path.specs.Path as path
use Rattle.path.specs.Path.{points}
use Rattle.raster.specs.Coverage.{along, in_ring, in_path, in_all, dot_on, row, rows}
use Rattle.machine.specs.Machine.{with_one, with_two, go_to, line_to, operate, run_token, advance, step_in, go_on, at_end, run}
use Rattle.machine.specs.Laws.{state_of}
use Rattle.session.specs.Jobs.{answer}
use Rattle.session.specs.Examples.{first_page, EmptyPagePrints, SquarePrints}

pub both_print : EmptyPagePrints × SquarePrints
unfolding finished begun goes_on with_byte is_between pieces cannot_read same_word as_operator place_of with_word word_limit words_after above_limit as_token build unless number_of turned path.finished points along in_ring in_path in_all dot_on row rows with_one with_two go_to line_to operate run_token advance step_in go_on at_end run state_of answer first_page
both_print = (refl, refl)
