use Rattle.reader.proofs.Backs.{line_reads_back}
use Rattle.reader.proofs.Fits.{says_sayable}
use Rattle.reader.proofs.Sheets.{sheet_reads_back, calls_read_back}
use Rattle.reader.proofs.words.plain_words_read_back.Goals as goal

pub returns : goal.returns
returns c = record { line = line_reads_back; only = says_sayable; sheet = sheet_reads_back; calls = calls_read_back }
