mod Alike
mod Decimals
mod FieldsRead
mod FieldsTaken
mod Folding
mod Kept
mod Lexing
mod Looking
mod NumberLengths
pub mod OneLine
mod PlainBytes
mod Punctuating
mod Quoting
pub mod RoundTrip
mod Shorter
mod Texts
mod Utf8
mod ValueRead
pub mod KeyFronts
pub mod Keys
pub mod Moved
