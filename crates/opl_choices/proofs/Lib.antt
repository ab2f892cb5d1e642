pub mod AnswerParts
pub mod AnswersSound
pub mod Asked
pub mod ElementLists
pub mod PlaceLists
