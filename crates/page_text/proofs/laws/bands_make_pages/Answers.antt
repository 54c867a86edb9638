use Rattle.page_text.proofs.Bands.{bands_join}
use Rattle.page_text.proofs.laws.bands_make_pages.Goals as goal

pub returns : goal.returns
returns c = bands_join
